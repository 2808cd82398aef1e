-- Nodes of one VXID stay linked when one more begins.
use Rattle.std.proofs.Common.{◌≡◌, ◌≢◌, ◌<◌, ◌≤◌, ⊎_elim, ℕ, Bool, true, false, eqb, cond, Option, Some, None, List, refl, ap, sym, ◌∙◌, subst, arith}
use Rattle.std.proofs.lemmas.Bool.{eq-eqb, eqb-false}
use Rattle.txn_rows.proofs.LineLemmas.{by_cases}
use Rattle.txn_groups.specs.declared.node.Node.{Node}
use Rattle.txn_groups.specs.inside.Nodes.{StandsAt, HasKin}
use Rattle.txn_groups.specs.inside.Linked.{is_place}
use Rattle.txn_groups.specs.inside.Kin.{AreKin, WasAt, IsNewestOf, IsPutIn, relinked}
use Rattle.txn_groups.proofs.ChildrenLemmas.{one_node}
use Rattle.txn_groups.proofs.KinLemmas.{told_place}

same : (i : ℕ) → eqb i i ≡ true
same i = eq-eqb i i refl

-- a node that was read at the newest place
not_newest : (o : Option ℕ) (at i : ℕ) → o ≡ Some at → is_place o i ≡ false → at ≢ i
not_newest o at i is no_place e =
    let both : true ≡ false = sym (ap (λ (p : Option ℕ). is_place p i) is ∙ ap (λ (n : ℕ). eqb n i) e ∙ same i) ∙ no_place in absurd (cc)

put_newer : (old new : List Node) (place : ℕ) (f : Node) (older : Option ℕ) (at : ℕ) (x : Node) → AreKin old → IsPutIn old new place f older → StandsAt old at x → (p : ℕ) → (relinked older place at x).newer ≡ Some p →
    (y : Node) × StandsAt new p y × (y.vxid ≡ x.vxid) × (x.serial < y.serial) × ((i : ℕ) (z : Node) → StandsAt new i z → z.vxid ≡ x.vxid → x.serial < z.serial → y.serial ≤ z.serial)
put_newer old new place f older at x are put there p e =
    by_cases ((y : Node) × StandsAt new p y × (y.vxid ≡ x.vxid) × (x.serial < y.serial) × ((i : ℕ) (z : Node) → StandsAt new i z → z.vxid ≡ x.vxid → x.serial < z.serial → y.serial ≤ z.serial)) (is_place older at)
    (λ t.
    let at_place : Some place ≡ Some p = sym (ap (λ (b : Bool). cond b (Some place) x.newer) t) ∙ e in
    let is_p : place ≡ p = (cc) in
    let w = put.newest.some at (told_place older at t) in
    let is_x : w.0 ≡ x = one_node old at at w.0 x w.1 there refl in
    let vxid : x.vxid ≡ f.vxid = ap (λ (n : Node). n.vxid) (sym is_x) ∙ w.2 in (
      f,
      subst (λ (n : ℕ). StandsAt new n f) is_p put.fresh,
      sym vxid,
      put.last at x there,
      λ i z stands same_z less. ⊎_elim
          (λ (is : (i ≡ place) × (z ≡ f)). omega (arith, ap (λ (n : Node). n.serial) is.1))
          (λ (v : WasAt old older place i z). absurd (omega (arith, less, ap (λ (n : Node). n.serial) v.is, ap (λ (n : Node). n.serial) is_x, w.3 i v.node v.there (sym (ap (λ (n : Node). n.vxid) v.is) ∙ same_z ∙ vxid))))
          (put.stood i z stands),
    ))
    (λ t.
    let k = (are.kin at x there).newer p (sym (ap (λ (b : Bool). cond b (Some place) x.newer) t) ∙ e) in (
      relinked older place p k.0,
      put.now p k.0 k.1,
      k.2,
      k.3,
      λ i z stands same_z less. ⊎_elim
          (λ (is : (i ≡ place) × (z ≡ f)). omega (arith, ap (λ (n : Node). n.serial) is.1, put.last p k.0 k.1))
          (λ (v : WasAt old older place i z). omega (arith, ap (λ (n : Node). n.serial) v.is, k.4 i v.node v.there (sym (ap (λ (n : Node). n.vxid) v.is) ∙ same_z) (omega (arith, less, ap (λ (n : Node). n.serial) v.is))))
          (put.stood i z stands),
    ))

-- the newest of a VXID leads to the new one, and no other that leads to none has its VXID
is_newest : (old : List Node) (vxid : ℕ) (older : Option ℕ) (at : ℕ) (x : Node) → AreKin old → IsNewestOf old vxid older → StandsAt old at x → x.vxid ≡ vxid → x.newer ≡ None → (o : Option ℕ) → older ≡ o → is_place o at ≡ true
is_newest old vxid older at x are newest there same_vxid none None is = absurd (newest.none is at x there same_vxid)
is_newest old vxid older at x are newest there same_vxid none (Some p) is =
    let w = newest.some p is in
    by_cases (is_place (Some p) at ≡ true) (eqb p at)
    (λ t. t)
    (λ t.
    let up : x.serial ≤ w.0.serial = w.3 at x there same_vxid in
    let differ : x.serial ≢ w.0.serial = λ e. eqb-false p at t (are.one p at w.0 x w.1 there (sym e)) in
    absurd ((are.kin at x there).none_newer none p w.0 w.1 (w.2 ∙ sym same_vxid) (omega (arith, up, differ))))

put_none : (old new : List Node) (place : ℕ) (f : Node) (older : Option ℕ) (at : ℕ) (x : Node) → AreKin old → IsPutIn old new place f older → StandsAt old at x → (relinked older place at x).newer ≡ None → (i : ℕ) (z : Node) → StandsAt new i z → z.vxid ≡ x.vxid → x.serial < z.serial → ⊥
put_none old new place f older at x are put there e i z stands same_z less =
    by_cases ⊥ (is_place older at)
    (λ t. absurd (let g : Some place ≡ None = sym (ap (λ (b : Bool). cond b (Some place) x.newer) t) ∙ e in cc))
    (λ t.
    let none : x.newer ≡ None = sym (ap (λ (b : Bool). cond b (Some place) x.newer) t) ∙ e in
    ⊎_elim
    (λ (is : (i ≡ place) × (z ≡ f)).
    let here = is_newest old f.vxid older at x are put.newest there (sym same_z ∙ ap (λ (n : Node). n.vxid) is.1) none older refl in
    let both : true ≡ false = sym here ∙ t in absurd (cc))
    (λ (v : WasAt old older place i z). (are.kin at x there).none_newer none i v.node v.there (sym (ap (λ (n : Node). n.vxid) v.is) ∙ same_z) (omega (arith, less, ap (λ (n : Node). n.serial) v.is)))
    (put.stood i z stands))

-- the links of a node that stood
put_kin : (old new : List Node) (place : ℕ) (f : Node) (older : Option ℕ) (at : ℕ) (x : Node) → AreKin old → IsPutIn old new place f older → StandsAt old at x → HasKin new (relinked older place at x)
put_kin old new place f older at x are put there =
    let kin : HasKin old x = are.kin at x there in
    record {
      older = λ p e.
          let k = kin.older p e in (
            relinked older place p k.0,
            put.now p k.0 k.1,
            k.2,
            k.3,
            λ i z stands same less. ⊎_elim
                (λ (is : (i ≡ place) × (z ≡ f)). absurd (omega (arith, less, put.last at x there, ap (λ (n : Node). n.serial) is.1)))
                (λ (w : WasAt old older place i z). omega (arith, ap (λ (n : Node). n.serial) w.is, k.4 i w.node w.there (sym (ap (λ (n : Node). n.vxid) w.is) ∙ same) (omega (arith, less, ap (λ (n : Node). n.serial) w.is))))
                (put.stood i z stands),
          );
      none_older = λ e i z stands same less. ⊎_elim
          (λ (is : (i ≡ place) × (z ≡ f)). absurd (omega (arith, less, put.last at x there, ap (λ (n : Node). n.serial) is.1)))
          (λ (w : WasAt old older place i z). kin.none_older e i w.node w.there (sym (ap (λ (n : Node). n.vxid) w.is) ∙ same) (omega (arith, less, ap (λ (n : Node). n.serial) w.is)))
          (put.stood i z stands);
      newer = λ p e. put_newer old new place f older at x are put there p e;
      none_newer = λ e i z stands same less. put_none old new place f older at x are put there e i z stands same less;
    }

fresh_kin : (old new : List Node) (place : ℕ) (f : Node) (older : Option ℕ) → IsPutIn old new place f older → HasKin new f
fresh_kin old new place f older put = record {
  older = λ p e.
      let w = put.newest.some p (sym put.older_is ∙ e) in (
        relinked older place p w.0,
        put.now p w.0 w.1,
        w.2,
        put.last p w.0 w.1,
        λ i z stands same_z less. ⊎_elim
            (λ (is : (i ≡ place) × (z ≡ f)). absurd (omega (arith, less, ap (λ (n : Node). n.serial) is.1)))
            (λ (v : WasAt old older place i z). omega (arith, ap (λ (n : Node). n.serial) v.is, w.3 i v.node v.there (sym (ap (λ (n : Node). n.vxid) v.is) ∙ same_z)))
            (put.stood i z stands),
      );
  none_older = λ e i z stands same_z less. ⊎_elim
      (λ (is : (i ≡ place) × (z ≡ f)). absurd (omega (arith, less, ap (λ (n : Node). n.serial) is.1)))
      (λ (v : WasAt old older place i z). put.newest.none (sym put.older_is ∙ e) i v.node v.there (sym (ap (λ (n : Node). n.vxid) v.is) ∙ same_z))
      (put.stood i z stands);
  newer = λ p e. absurd (let g : None ≡ Some p = sym put.newer_is ∙ e in cc);
  none_newer = λ e i z stands same_z less. ⊎_elim
      (λ (is : (i ≡ place) × (z ≡ f)). absurd (omega (arith, less, ap (λ (n : Node). n.serial) is.1)))
      (λ (v : WasAt old older place i z). absurd (omega (arith, less, ap (λ (n : Node). n.serial) v.is, put.last i v.node v.there)))
      (put.stood i z stands);
}

-- the nodes that stand after one was put in are linked
pub put_in : (old new : List Node) (place : ℕ) (f : Node) (older : Option ℕ) → AreKin old → IsPutIn old new place f older → AreKin new
put_in old new place f older are put = record {
  kin = λ at y there. ⊎_elim
      (λ (is : (at ≡ place) × (y ≡ f)). subst (HasKin new) (sym is.1) (fresh_kin old new place f older put))
      (λ (v : WasAt old older place at y). subst (HasKin new) (sym v.is) (put_kin old new place f older at v.node are put v.there))
      (put.stood at y there);
  one = λ at other y z there here same_serial. ⊎_elim
      (λ (is : (at ≡ place) × (y ≡ f)). ⊎_elim
      (λ (also : (other ≡ place) × (z ≡ f)). is.0 ∙ sym also.0)
      (λ (w : WasAt old older place other z). absurd (omega (arith, same_serial, ap (λ (n : Node). n.serial) is.1, ap (λ (n : Node). n.serial) w.is, put.last other w.node w.there)))
      (put.stood other z here))
      (λ (v : WasAt old older place at y). ⊎_elim
      (λ (is : (other ≡ place) × (z ≡ f)). absurd (omega (arith, same_serial, ap (λ (n : Node). n.serial) is.1, ap (λ (n : Node). n.serial) v.is, put.last at v.node v.there)))
      (λ (w : WasAt old older place other z). are.one at other v.node w.node v.there w.there (sym (ap (λ (n : Node). n.serial) v.is) ∙ same_serial ∙ ap (λ (n : Node). n.serial) w.is))
      (put.stood other z here))
      (put.stood at y there);
}
