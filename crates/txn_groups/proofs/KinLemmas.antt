-- Nodes of one VXID stay linked when one of them is taken out.
use Rattle.std.proofs.Common.{◌≡◌, ◌≢◌, ◌<◌, ◌≤◌, ℕ, Bool, true, false, ltb, cond, Option, Some, None, List, refl, ap, sym, ◌∙◌, subst, arith}
use Rattle.std.proofs.lemmas.Bool.{eqb-true, ltb-true, ltb-false, eq-eqb}
use Rattle.txn_rows.proofs.LineLemmas.{by_cases}
use Rattle.txn_groups.specs.declared.node.Node.{Node}
use Rattle.txn_groups.specs.inside.Nodes.{StandsAt, HasKin}
use Rattle.txn_groups.specs.inside.Linked.{is_place}
use Rattle.txn_groups.specs.inside.Kin.{unlinked, IsTakenOut, AreKin}
use Rattle.txn_groups.proofs.ChildrenLemmas.{one_node}

-- a place that is told
pub told_place : (o : Option ℕ) (at : ℕ) → is_place o at ≡ true → o ≡ Some at
told_place None at e = absurd (let f : false ≡ true = e in cc)
told_place (Some place) at e = ap Some (eqb-true place at e)

-- nodes of two places have two serial numbers
apart : (nodes : List Node) (at place : ℕ) (x g : Node) → AreKin nodes → StandsAt nodes at x → StandsAt nodes place g → at ≢ place → x.serial ≢ g.serial
apart nodes at place x g are there here other = λ e. other (are.one at place x g there here e)

-- where no node stands between them, the one at a place is the newer of the other
is_newer : (nodes : List Node) (place at : ℕ) (g x : Node) → AreKin nodes → StandsAt nodes place g → StandsAt nodes at x → x.vxid ≡ g.vxid → g.serial < x.serial → ((i : ℕ) (z : Node) → StandsAt nodes i z → z.vxid ≡ x.vxid → z.serial < x.serial → z.serial ≤ g.serial) → (o : Option ℕ) → g.newer ≡ o → is_place o at ≡ true
is_newer nodes place at g x are here there same less most None is = absurd ((are.kin place g here).none_newer is at x there same less)
is_newer nodes place at g x are here there same less most (Some p) is =
    let w = (are.kin place g here).newer p is in
    let up : w.0.serial ≤ x.serial = w.4 at x there same less in
    let down : x.serial ≤ w.0.serial = by_cases (x.serial ≤ w.0.serial) (ltb w.0.serial x.serial)
    (λ t. absurd (omega (arith, most p w.0 w.1 (w.2 ∙ sym same) (ltb-true w.0.serial x.serial t), w.3)))
    (λ t. ltb-false w.0.serial x.serial t) in
    eq-eqb p at (are.one p at w.0 x w.1 there (omega (arith, up, down)))

is_older : (nodes : List Node) (place at : ℕ) (g x : Node) → AreKin nodes → StandsAt nodes place g → StandsAt nodes at x → x.vxid ≡ g.vxid → x.serial < g.serial → ((i : ℕ) (z : Node) → StandsAt nodes i z → z.vxid ≡ x.vxid → x.serial < z.serial → g.serial ≤ z.serial) → (o : Option ℕ) → g.older ≡ o → is_place o at ≡ true
is_older nodes place at g x are here there same less most None is = absurd ((are.kin place g here).none_older is at x there same less)
is_older nodes place at g x are here there same less most (Some p) is =
    let w = (are.kin place g here).older p is in
    let down : x.serial ≤ w.0.serial = w.4 at x there same less in
    let up : w.0.serial ≤ x.serial = by_cases (w.0.serial ≤ x.serial) (ltb x.serial w.0.serial)
    (λ t. absurd (omega (arith, most p w.0 w.1 (w.2 ∙ sym same) (ltb-true x.serial w.0.serial t), w.3)))
    (λ t. ltb-false x.serial w.0.serial t) in
    eq-eqb p at (are.one p at w.0 x w.1 there (omega (arith, up, down)))

-- what the older link of a node is after the other was taken out
abbrev OlderOf : List Node → Node → ℕ → Node → Type 0
OlderOf nodes x p y = StandsAt nodes p y × (y.vxid ≡ x.vxid) × (y.serial < x.serial) × ((at : ℕ) (z : Node) → StandsAt nodes at z → z.vxid ≡ x.vxid → z.serial < x.serial → z.serial ≤ y.serial)

older_now : (old new : List Node) (place : ℕ) (g : Node) (at : ℕ) (x : Node) → AreKin old → IsTakenOut old new place g → StandsAt old at x → at ≢ place → (p : ℕ) → (unlinked g at x).older ≡ Some p → (y : Node) × OlderOf new x p y
older_now old new place g at x are out there other p e =
    by_cases ((y : Node) × OlderOf new x p y) (is_place g.newer at)
    (λ t.
    let w = (are.kin place g out.was).newer at (told_place g.newer at t) in
    let same : w.0 ≡ x = one_node old at at w.0 x w.1 there refl in
    let o = (are.kin place g out.was).older p (sym (ap (λ (b : Bool). cond b g.older x.older) t) ∙ e) in
    let vxid : g.vxid ≡ x.vxid = sym w.2 ∙ ap (λ (n : Node). n.vxid) same in
    let above : g.serial < x.serial = omega (arith, w.3, ap (λ (n : Node). n.serial) same) in
    let away : p ≢ place = λ f. omega (arith, o.3, ap (λ (n : Node). n.serial) (one_node old p place o.0 g o.1 out.was f)) in (
      unlinked g p o.0,
      (
        out.now p o.0 o.1 away,
        o.2 ∙ vxid,
        omega (arith, o.3, above),
        λ i z stands same_z less.
            let s = out.stood i z stands in
            let serial : z.serial ≡ s.node.serial = ap (λ (n : Node). n.serial) s.is in
            let vxid_z : s.node.vxid ≡ g.vxid = sym (ap (λ (n : Node). n.vxid) s.is) ∙ same_z ∙ sym vxid in
            let differ = apart old i place s.node g are s.there out.was s.other in
            by_cases (z.serial ≤ o.0.serial) (ltb g.serial s.node.serial)
            (λ u. absurd (omega (arith, less, serial, ap (λ (n : Node). n.serial) same, w.4 i s.node s.there vxid_z (ltb-true g.serial s.node.serial u))))
            (λ u. omega (arith, serial, o.4 i s.node s.there vxid_z (omega (arith, differ, ltb-false g.serial s.node.serial u)))),
      ),
    ))
    (λ t.
    let o = (are.kin at x there).older p (sym (ap (λ (b : Bool). cond b g.older x.older) t) ∙ e) in
    let away : p ≢ place = λ f.
    let same : o.0 ≡ g = one_node old p place o.0 g o.1 out.was f in
    let own : (g.vxid ≡ x.vxid) × (g.serial < x.serial) × ((i : ℕ) (z : Node) → StandsAt old i z → z.vxid ≡ x.vxid → z.serial < x.serial → z.serial ≤ g.serial) = subst (λ (n : Node). (n.vxid ≡ x.vxid) × (n.serial < x.serial) × ((i : ℕ) (z : Node) → StandsAt old i z → z.vxid ≡ x.vxid → z.serial < x.serial → z.serial ≤ n.serial)) same (o.2, o.3, o.4) in
    let both : true ≡ false = sym (is_newer old place at g x are out.was there (sym own.0) own.1 own.2 g.newer refl) ∙ t in absurd (cc) in (
      unlinked g p o.0,
      (
        out.now p o.0 o.1 away,
        o.2,
        o.3,
        λ i z stands same_z less.
            let s = out.stood i z stands in
            let serial : z.serial ≡ s.node.serial = ap (λ (n : Node). n.serial) s.is in
            omega (arith, serial, o.4 i s.node s.there (sym (ap (λ (n : Node). n.vxid) s.is) ∙ same_z) (omega (arith, serial, less))),
      ),
    ))

-- where none is told, none is older
older_none : (old new : List Node) (place : ℕ) (g : Node) (at : ℕ) (x : Node) → AreKin old → IsTakenOut old new place g → StandsAt old at x → at ≢ place → (unlinked g at x).older ≡ None → (i : ℕ) (y : Node) → StandsAt new i y → y.vxid ≡ x.vxid → y.serial < x.serial → ⊥
older_none old new place g at x are out there other e i y stands same less =
    let s = out.stood i y stands in
    let serial : y.serial ≡ s.node.serial = ap (λ (n : Node). n.serial) s.is in
    let vxid : s.node.vxid ≡ x.vxid = sym (ap (λ (n : Node). n.vxid) s.is) ∙ same in
    by_cases ⊥ (is_place g.newer at)
    (λ t.
    let w = (are.kin place g out.was).newer at (told_place g.newer at t) in
    let is : w.0 ≡ x = one_node old at at w.0 x w.1 there refl in
    let vxid_g : x.vxid ≡ g.vxid = ap (λ (n : Node). n.vxid) (sym is) ∙ w.2 in
    let differ = apart old i place s.node g are s.there out.was s.other in
    let below : s.node.serial < g.serial = by_cases (s.node.serial < g.serial) (ltb g.serial s.node.serial)
    (λ u. absurd (omega (arith, less, serial, ap (λ (n : Node). n.serial) is, w.4 i s.node s.there (vxid ∙ vxid_g) (ltb-true g.serial s.node.serial u))))
    (λ u. omega (arith, differ, ltb-false g.serial s.node.serial u)) in
    (are.kin place g out.was).none_older (sym (ap (λ (b : Bool). cond b g.older x.older) t) ∙ e) i s.node s.there (vxid ∙ vxid_g) below)
    (λ t. (are.kin at x there).none_older (sym (ap (λ (b : Bool). cond b g.older x.older) t) ∙ e) i s.node s.there vxid (omega (arith, serial, less)))

-- what the newer link of a node is after the other was taken out
abbrev NewerOf : List Node → Node → ℕ → Node → Type 0
NewerOf nodes x p y = StandsAt nodes p y × (y.vxid ≡ x.vxid) × (x.serial < y.serial) × ((at : ℕ) (z : Node) → StandsAt nodes at z → z.vxid ≡ x.vxid → x.serial < z.serial → y.serial ≤ z.serial)

newer_now : (old new : List Node) (place : ℕ) (g : Node) (at : ℕ) (x : Node) → AreKin old → IsTakenOut old new place g → StandsAt old at x → at ≢ place → (p : ℕ) → (unlinked g at x).newer ≡ Some p → (y : Node) × NewerOf new x p y
newer_now old new place g at x are out there other p e =
    by_cases ((y : Node) × NewerOf new x p y) (is_place g.older at)
    (λ t.
    let w = (are.kin place g out.was).older at (told_place g.older at t) in
    let same : w.0 ≡ x = one_node old at at w.0 x w.1 there refl in
    let o = (are.kin place g out.was).newer p (sym (ap (λ (b : Bool). cond b g.newer x.newer) t) ∙ e) in
    let vxid : g.vxid ≡ x.vxid = sym w.2 ∙ ap (λ (n : Node). n.vxid) same in
    let above : x.serial < g.serial = omega (arith, w.3, ap (λ (n : Node). n.serial) same) in
    let away : p ≢ place = λ f. omega (arith, o.3, ap (λ (n : Node). n.serial) (one_node old p place o.0 g o.1 out.was f)) in (
      unlinked g p o.0,
      (
        out.now p o.0 o.1 away,
        o.2 ∙ vxid,
        omega (arith, o.3, above),
        λ i z stands same_z less.
            let s = out.stood i z stands in
            let serial : z.serial ≡ s.node.serial = ap (λ (n : Node). n.serial) s.is in
            let vxid_z : s.node.vxid ≡ g.vxid = sym (ap (λ (n : Node). n.vxid) s.is) ∙ same_z ∙ sym vxid in
            let differ = apart old i place s.node g are s.there out.was s.other in
            by_cases (o.0.serial ≤ z.serial) (ltb s.node.serial g.serial)
            (λ u. absurd (omega (arith, less, serial, ap (λ (n : Node). n.serial) same, w.4 i s.node s.there vxid_z (ltb-true s.node.serial g.serial u))))
            (λ u. omega (arith, serial, o.4 i s.node s.there vxid_z (omega (arith, differ, ltb-false s.node.serial g.serial u)))),
      ),
    ))
    (λ t.
    let o = (are.kin at x there).newer p (sym (ap (λ (b : Bool). cond b g.newer x.newer) t) ∙ e) in
    let away : p ≢ place = λ f.
    let same : o.0 ≡ g = one_node old p place o.0 g o.1 out.was f in
    let own : (g.vxid ≡ x.vxid) × (x.serial < g.serial) × ((i : ℕ) (z : Node) → StandsAt old i z → z.vxid ≡ x.vxid → x.serial < z.serial → g.serial ≤ z.serial) = subst (λ (n : Node). (n.vxid ≡ x.vxid) × (x.serial < n.serial) × ((i : ℕ) (z : Node) → StandsAt old i z → z.vxid ≡ x.vxid → x.serial < z.serial → n.serial ≤ z.serial)) same (o.2, o.3, o.4) in
    let both : true ≡ false = sym (is_older old place at g x are out.was there (sym own.0) own.1 own.2 g.older refl) ∙ t in absurd (cc) in (
      unlinked g p o.0,
      (
        out.now p o.0 o.1 away,
        o.2,
        o.3,
        λ i z stands same_z less.
            let s = out.stood i z stands in
            let serial : z.serial ≡ s.node.serial = ap (λ (n : Node). n.serial) s.is in
            omega (arith, serial, o.4 i s.node s.there (sym (ap (λ (n : Node). n.vxid) s.is) ∙ same_z) (omega (arith, serial, less))),
      ),
    ))

-- where none is told, none is newer
newer_none : (old new : List Node) (place : ℕ) (g : Node) (at : ℕ) (x : Node) → AreKin old → IsTakenOut old new place g → StandsAt old at x → at ≢ place → (unlinked g at x).newer ≡ None → (i : ℕ) (y : Node) → StandsAt new i y → y.vxid ≡ x.vxid → x.serial < y.serial → ⊥
newer_none old new place g at x are out there other e i y stands same less =
    let s = out.stood i y stands in
    let serial : y.serial ≡ s.node.serial = ap (λ (n : Node). n.serial) s.is in
    let vxid : s.node.vxid ≡ x.vxid = sym (ap (λ (n : Node). n.vxid) s.is) ∙ same in
    by_cases ⊥ (is_place g.older at)
    (λ t.
    let w = (are.kin place g out.was).older at (told_place g.older at t) in
    let is : w.0 ≡ x = one_node old at at w.0 x w.1 there refl in
    let vxid_g : x.vxid ≡ g.vxid = ap (λ (n : Node). n.vxid) (sym is) ∙ w.2 in
    let differ = apart old i place s.node g are s.there out.was s.other in
    let below : g.serial < s.node.serial = by_cases (g.serial < s.node.serial) (ltb s.node.serial g.serial)
    (λ u. absurd (omega (arith, less, serial, ap (λ (n : Node). n.serial) is, w.4 i s.node s.there (vxid ∙ vxid_g) (ltb-true s.node.serial g.serial u))))
    (λ u. omega (arith, differ, ltb-false s.node.serial g.serial u)) in
    (are.kin place g out.was).none_newer (sym (ap (λ (b : Bool). cond b g.newer x.newer) t) ∙ e) i s.node s.there (vxid ∙ vxid_g) below)
    (λ t. (are.kin at x there).none_newer (sym (ap (λ (b : Bool). cond b g.newer x.newer) t) ∙ e) i s.node s.there vxid (omega (arith, serial, less)))

-- the nodes that stand after one was taken out are linked
pub taken_out : (old new : List Node) (place : ℕ) (g : Node) → AreKin old → IsTakenOut old new place g → AreKin new
taken_out old new place g are out = record {
  kin = λ at y there.
      let s = out.stood at y there in
      subst (HasKin new) (sym s.is) (record {
        older = λ p e. let o = older_now old new place g at s.node are out s.there s.other p e in (o.0, o.1.0, o.1.1, o.1.2, o.1.3);
        none_older = λ e i z stands same less. older_none old new place g at s.node are out s.there s.other e i z stands same less;
        newer = λ p e. let o = newer_now old new place g at s.node are out s.there s.other p e in (o.0, o.1.0, o.1.1, o.1.2, o.1.3);
        none_newer = λ e i z stands same less. newer_none old new place g at s.node are out s.there s.other e i z stands same less;
      });
  one = λ at other y z there here same.
      let a = out.stood at y there in
      let b = out.stood other z here in
      are.one at other a.node b.node a.there b.there (sym (ap (λ (n : Node). n.serial) a.is) ∙ same ∙ ap (λ (n : Node). n.serial) b.is);
}
