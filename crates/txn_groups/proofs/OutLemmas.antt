-- A node that is taken out: the index without it, and its place among the free ones.
use Rattle.std.proofs.Common.{◌≡◌, ◌≢◌, ◌<◌, ◌⊎◌, ⊎_elim, inl, inr, ℕ, Bool, true, false, eqb, ltb, cond, Option, Some, None, List, [], ◌∷◌, ◌++◌, length, set, refl, ap, sym, ◌∙◌, subst, arith}
use Rattle.std.specs.Prelude.{slice_get}
use Rattle.std.specs.Option.{option_map}
use Rattle.std.proofs.lemmas.Bool.{eqb-true, eqb-false, ltb-true, ltb-false}
use Rattle.txn_rows.proofs.LineLemmas.{by_cases}
use Rattle.txn_groups.specs.declared.node.Node.{Node}
use Rattle.txn_groups.specs.declared.index.Index.{Index}
use Rattle.txn_groups.specs.inside.Nodes.{IsIn, StandsAt}
use Rattle.txn_groups.specs.inside.Linked.{is_place}
use Rattle.txn_groups.specs.inside.Retold.{AreChanged}
use Rattle.txn_groups.specs.inside.Kin.{unlinked, StoodAt, IsTakenOut, AreKin, IsNewestOf}
use Rattle.txn_groups.specs.inside.Indexed.{newest_in, IsIndex, IsOutOfIndex}
use Rattle.txn_groups.specs.inside.Places.{IsFree, AreFree}
use Rattle.txn_groups.specs.inside.Taken.{IsFreed}
use Rattle.txn_groups.proofs.ChildrenLemmas.{one_node}
use Rattle.txn_groups.proofs.ChangedLemmas.{changed_then, get_set_same, get_set_other}
use Rattle.txn_groups.proofs.PlaceLemmas.{none_stands, once_push}

-- a place whose node was written as free
pub freed_set : (xs : List Node) (at : ℕ) (y : Node) → at < length xs → y.stands ≡ false → IsFreed xs (set xs at y) at
freed_set xs at y within none = record { free = record { node = y; here = get_set_same xs at y within; none = none }; others = λ i other. get_set_other xs at i y other }

stood_of : (g : Node) (i : ℕ) (o : Option Node) (y : Node) → option_map (unlinked g i) o ≡ Some y → y.stands ≡ true → (x : Node) × (o ≡ Some x) × (y ≡ unlinked g i x) × (x.stands ≡ true)
stood_of g i None y e stands = absurd (let f : None ≡ Some y = e in cc)
stood_of g i (Some x) y e stands =
    let same : y ≡ unlinked g i x = (let f : Some (unlinked g i x) ≡ Some y = e in cc) in
    (x, refl, same, ap (λ (n : Node). n.stands) (sym same) ∙ stands)

-- nodes beside one are linked to each other
pub unlinked_by : (g : Node) (old first next : List Node) → AreChanged (λ at x. record x { older = cond (is_place g.newer at) g.older x.older }) old first → AreChanged (λ at x. record x { newer = cond (is_place g.older at) g.newer x.newer }) first next → AreChanged (unlinked g) old next
unlinked_by g old first next a b = changed_then (λ at x. record x { older = cond (is_place g.newer at) g.older x.older }) (λ at x. record x { newer = cond (is_place g.older at) g.newer x.newer }) old first next a b

-- a node is taken out
pub out_of_place : (old mid new : List Node) (place : ℕ) (g : Node) → StandsAt old place g → AreChanged (unlinked g) old mid → IsFreed mid new place → IsTakenOut old new place g
out_of_place old mid new place g was changed freed = record {
  was = was;
  now = λ i x there other. record { here = freed.others i other ∙ changed i ∙ ap (option_map (unlinked g i)) there.here; stands = there.stands };
  stood = λ i y there.
      by_cases (StoodAt old place g i y) (eqb i place)
      (λ t. absurd (none_stands new place y freed.free (subst (λ (n : ℕ). StandsAt new n y) (eqb-true i place t) there)))
      (λ t.
      let other = eqb-false i place t in
      let w = stood_of g i (slice_get old i) y (sym (changed i) ∙ sym (freed.others i other) ∙ there.here) there.stands in
      record { node = w.0; there = record { here = w.1; stands = w.3 }; other = other; is = w.2 });
}

-- the newest of a VXID stays so where it is another
out_still : (old new : List Node) (place : ℕ) (g : Node) (v : ℕ) (o : Option ℕ) → IsTakenOut old new place g → IsNewestOf old v o → ((p : ℕ) → o ≡ Some p → p ≢ place) → IsNewestOf new v o
out_still old new place g v o out n away = record {
  some = λ p e.
      let w = n.some p e in (
        unlinked g p w.0,
        out.now p w.0 w.1 (away p e),
        w.2,
        λ i z there same.
            let s = out.stood i z there in
            omega (arith, ap (λ (x : Node). x.serial) s.is, w.3 i s.node s.there (sym (ap (λ (x : Node). x.vxid) s.is) ∙ same)),
      );
  none = λ e i z there same.
      let s = out.stood i z there in
      n.none e i s.node s.there (sym (ap (λ (x : Node). x.vxid) s.is) ∙ same);
}

-- a node of the same VXID as the newest began before it
below : (old : List Node) (place : ℕ) (g : Node) (i : ℕ) (z : Node) → AreKin old → StandsAt old place g → g.newer ≡ None → StandsAt old i z → z.vxid ≡ g.vxid → i ≢ place → z.serial < g.serial
below old place g i z kin was none there same other =
    let differ : z.serial ≢ g.serial = λ e. other (kin.one i place z g there was e) in
    by_cases (z.serial < g.serial) (ltb g.serial z.serial)
    (λ u. absurd ((kin.kin place g was).none_newer none i z there same (ltb-true g.serial z.serial u)))
    (λ u. omega (arith, differ, ltb-false g.serial z.serial u))

-- the one before the newest is the newest of its VXID
out_newest : (old new : List Node) (place : ℕ) (g : Node) (v : ℕ) → AreKin old → IsTakenOut old new place g → g.newer ≡ None → g.vxid ≡ v → IsNewestOf new v g.older
out_newest old new place g v kin out none vxid_is = record {
  some = λ p e.
      let o = (kin.kin place g out.was).older p e in
      let away : p ≢ place = λ f. omega (arith, o.3, ap (λ (n : Node). n.serial) (one_node old p place o.0 g o.1 out.was f)) in (
        unlinked g p o.0,
        out.now p o.0 o.1 away,
        o.2 ∙ vxid_is,
        λ i z there same.
            let s = out.stood i z there in
            let own : s.node.vxid ≡ g.vxid = sym (ap (λ (x : Node). x.vxid) s.is) ∙ same ∙ sym vxid_is in
            omega (arith, ap (λ (x : Node). x.serial) s.is, o.4 i s.node s.there own (below old place g i s.node kin out.was none s.there own s.other)),
      );
  none = λ e i z there same.
      let s = out.stood i z there in
      let own : s.node.vxid ≡ g.vxid = sym (ap (λ (x : Node). x.vxid) s.is) ∙ same ∙ sym vxid_is in
      (kin.kin place g out.was).none_older e i s.node s.there own (below old place g i s.node kin out.was none s.there own s.other);
}

index_out_by : (old new : List Node) (place : ℕ) (g : Node) (index now : Index) → AreKin old → IsTakenOut old new place g → IsIndex old index → (o : Option ℕ) → g.newer ≡ o → IsOutOfIndex index now g.vxid g.older o → IsIndex new now
index_out_by old new place g index now kin out is None none updated = λ v.
    let Goal : Bool → Type 0 = λ b. IsNewestOf new v (cond b g.older (newest_in index v)) in
    subst (IsNewestOf new v) (sym (updated v))
    (by_cases (Goal (eqb g.vxid v)) (eqb g.vxid v)
    (λ t. subst Goal (sym t) (out_newest old new place g v kin out none (eqb-true g.vxid v t)))
    (λ t. subst Goal (sym t) (out_still old new place g v (newest_in index v) out (is v) (λ p e f.
    let w = (is v).some p e in
    eqb-false g.vxid v t (ap (λ (n : Node). n.vxid) (sym (one_node old p place w.0 g w.1 out.was f)) ∙ w.2)))))
index_out_by old new place g index now kin out is (Some q) more same = λ v.
    subst (IsNewestOf new v) (sym (same v)) (out_still old new place g v (newest_in index v) out (is v) (λ p e f.
    let w = (is v).some p e in
    let own : w.0 ≡ g = one_node old p place w.0 g w.1 out.was f in
    let k = (kin.kin place g out.was).newer q more in
    omega (arith, k.3, w.3 q k.0 k.1 (k.2 ∙ ap (λ (n : Node). n.vxid) (sym own) ∙ w.2), ap (λ (n : Node). n.serial) own)))

-- an index tells of the nodes that are left
pub index_out : (old new : List Node) (place : ℕ) (g : Node) (index now : Index) → AreKin old → IsTakenOut old new place g → IsIndex old index → IsOutOfIndex index now g.vxid g.older g.newer → IsIndex new now
index_out old new place g index now kin out is updated = index_out_by old new place g index now kin out is g.newer refl updated

in_either : (free : List ℕ) (at x : ℕ) → IsIn (free ++ at ∷ []) x → IsIn free x ⊎ (x ≡ at)
in_either [] at x i = ⊎_elim (λ (e : x ≡ at). inr e) (λ (n : ⊥). absurd n) i
in_either (y ∷ free) at x i = ⊎_elim
    (λ (e : x ≡ y). inl (inl e))
    (λ (later : IsIn (free ++ at ∷ []) x). ⊎_elim (λ (h : IsIn free x). inl (inr h)) (λ (e : x ≡ at). inr e) (in_either free at x later))
    i

-- the place is free from then on
pub free_out : (old mid new : List Node) (place : ℕ) (g : Node) (free : List ℕ) → StandsAt old place g → AreChanged (unlinked g) old mid → IsFreed mid new place → AreFree old free → AreFree new (free ++ place ∷ [])
free_out old mid new place g free was changed freed are = record {
  each = λ i h. ⊎_elim
      (λ (h : IsIn free i).
      let f : IsFree old i = are.each i h in
      let other : i ≢ place = λ e. none_stands old place g (subst (IsFree old) e f) was in
      record { node = unlinked g i f.node; here = freed.others i other ∙ changed i ∙ ap (option_map (unlinked g i)) f.here; none = f.none })
      (λ (e : i ≡ place). subst (IsFree new) (sym e) freed.free)
      (in_either free place i h);
  once = once_push free place are.once (λ h. none_stands old place g (are.each place h) was);
}
