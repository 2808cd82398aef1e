-- Free places, and nodes that are written at them.
use Rattle.std.proofs.Common.{◌≡◌, ◌≢◌, ◌<◌, ◌⊎◌, ⊎_elim, inl, inr, ℕ, zero, suc, true, false, eqb, Option, Some, None, List, [], ◌∷◌, ◌++◌, length, set, refl, ap, sym, ◌∙◌, subst, arith}
use Rattle.std.specs.Prelude.{slice_get}
use Rattle.std.specs.Option.{option_map}
use Rattle.std.proofs.lemmas.Bool.{eqb-true, eqb-false}
use Rattle.std.proofs.lemmas.Option.{slice_get_within}
use Rattle.txn_rows.proofs.LineLemmas.{by_cases}
use Rattle.txn_groups.specs.declared.node.Node.{Node}
use Rattle.txn_groups.specs.inside.Nodes.{IsIn, StandsAt}
use Rattle.txn_groups.specs.inside.Retold.{AreChanged}
use Rattle.txn_groups.specs.inside.Places.{AreOnce, IsFree, AreFree, IsFreePlace, IsPut}
use Rattle.txn_groups.specs.inside.Kin.{relinked, WasAt, IsNewestOf, IsPutIn}
use Rattle.txn_groups.proofs.SetLemmas.{in_left, in_right}
use Rattle.txn_groups.proofs.ChangedLemmas.{get_set_same, get_set_other}

-- places of which the last is taken away
once_front : (free : List ℕ) (at : ℕ) → AreOnce (free ++ at ∷ []) → AreOnce free × (IsIn free at → ⊥)
once_front [] at o = (tt, λ i. i)
once_front (first ∷ free) at o =
    let r = once_front free at o.1 in (
      (λ i. o.0 (in_left free (at ∷ []) first i), r.0),
      λ i. ⊎_elim
          (λ (e : at ≡ first). o.0 (in_right free (at ∷ []) first (inl (sym e))))
          (λ (later : IsIn free at). r.1 later)
          i,
    )

in_push : (free : List ℕ) (at x : ℕ) → (IsIn free x → ⊥) → x ≢ at → IsIn (free ++ at ∷ []) x → ⊥
in_push [] at x none other i = ⊎_elim (λ (e : x ≡ at). other e) (λ (n : ⊥). n) i
in_push (y ∷ free) at x none other i = ⊎_elim
    (λ (e : x ≡ y). none (inl e))
    (λ (later : IsIn (free ++ at ∷ []) x). in_push free at x (λ h. none (inr h)) other later)
    i

-- a place that is put behind others
pub once_push : (free : List ℕ) (at : ℕ) → AreOnce free → (IsIn free at → ⊥) → AreOnce (free ++ at ∷ [])
once_push [] at o apart = (λ i. i, tt)
once_push (first ∷ free) at o apart = (λ i. in_push free at first o.0 (λ e. apart (inl (sym e))) i, once_push free at o.1 (λ i. apart (inr i)))

-- no node stands at a free place
pub none_stands : (nodes : List Node) (at : ℕ) (x : Node) → IsFree nodes at → StandsAt nodes at x → ⊥
none_stands nodes at x free there =
    let e : Some free.node ≡ Some x = sym free.here ∙ there.here in
    let same : free.node ≡ x = (cc) in
    let both : false ≡ true = sym free.none ∙ ap (λ (n : Node). n.stands) same ∙ there.stands in absurd (cc)

-- the last of the free places is taken
pub place_popped : (nodes : List Node) (all free : List ℕ) (at : ℕ) → all ≡ free ++ at ∷ [] → AreFree nodes all → IsFreePlace nodes free at
place_popped nodes all free at is are =
    let own : AreFree nodes (free ++ at ∷ []) = subst (AreFree nodes) is are in
    let once = once_front free at own.once in
    let f : IsFree nodes at = own.each at (in_right free (at ∷ []) at (inl refl)) in
    record {
      within = omega (arith, slice_get_within nodes at f.node f.here);
      none = λ x there. none_stands nodes at x f there;
      left = record { each = λ i h. own.each i (in_left free (at ∷ []) i h); once = once.0 };
      apart = once.1;
    }

-- the place behind all is taken
pub place_next : (nodes : List Node) (free : List ℕ) → AreFree nodes free → IsFreePlace nodes free (length nodes)
place_next nodes free are = record {
  within = omega arith;
  none = λ x there. absurd (omega (arith, slice_get_within nodes (length nodes) x there.here));
  left = are;
  apart = λ i. let f : IsFree nodes (length nodes) = are.each (length nodes) i in absurd (omega (arith, slice_get_within nodes (length nodes) f.node f.here));
}

get_push_same : (xs : List Node) (y : Node) → slice_get (xs ++ y ∷ []) (length xs) ≡ Some y
get_push_same [] y = refl
get_push_same (x ∷ xs) y = get_push_same xs y

get_push_other : (xs : List Node) (y : Node) (i : ℕ) → i ≢ length xs → slice_get (xs ++ y ∷ []) i ≡ slice_get xs i
get_push_other [] y zero other = absurd (other refl)
get_push_other [] y (suc i) other = refl
get_push_other (x ∷ xs) y zero other = refl
get_push_other (x ∷ xs) y (suc i) other = get_push_other xs y i (λ e. other (ap suc e))

-- a node that is written
pub put_set : (xs : List Node) (at : ℕ) (y : Node) → at < length xs → IsPut xs (set xs at y) at y
put_set xs at y within = record { here = get_set_same xs at y within; others = λ i other. get_set_other xs at i y other }

pub put_push : (xs : List Node) (at : ℕ) (y : Node) → at ≡ length xs → IsPut xs (xs ++ y ∷ []) at y
put_push xs at y is = record { here = ap (slice_get (xs ++ y ∷ [])) is ∙ get_push_same xs y; others = λ i other. get_push_other xs y i (λ e. other (e ∙ sym is)) }

was_of : (older : Option ℕ) (at i : ℕ) (o : Option Node) (y : Node) → option_map (relinked older at i) o ≡ Some y → y.stands ≡ true → (x : Node) × (o ≡ Some x) × (y ≡ relinked older at i x) × (x.stands ≡ true)
was_of older at i None y e stands = absurd (let f : None ≡ Some y = e in cc)
was_of older at i (Some x) y e stands =
    let same : y ≡ relinked older at i x = (let f : Some (relinked older at i x) ≡ Some y = e in cc) in
    (x, refl, same, ap (λ (n : Node). n.stands) (sym same) ∙ stands)

-- a node is put in at a free place
pub put_in_place : (old mid new : List Node) (at : ℕ) (f : Node) (older : Option ℕ) → ((x : Node) → StandsAt old at x → ⊥) → AreChanged (relinked older at) old mid → IsPut mid new at f → f.stands ≡ true → f.older ≡ older → f.newer ≡ None → ((i : ℕ) (x : Node) → StandsAt old i x → x.serial < f.serial) → IsNewestOf old f.vxid older → IsPutIn old new at f older
put_in_place old mid new at f older none changed put stands older_is newer_is under newest = record {
  free = none;
  fresh = record { here = put.here; stands = stands };
  older_is = older_is;
  newer_is = newer_is;
  last = under;
  newest = newest;
  now = λ i x there.
      let other : i ≢ at = λ e. none x (subst (λ (n : ℕ). StandsAt old n x) e there) in
      record { here = put.others i other ∙ changed i ∙ ap (option_map (relinked older at i)) there.here; stands = there.stands };
  stood = λ i y there.
      by_cases (((i ≡ at) × (y ≡ f)) ⊎ WasAt old older at i y) (eqb i at)
      (λ t.
      let same : i ≡ at = eqb-true i at t in
      let e : Some f ≡ Some y = sym put.here ∙ ap (slice_get new) (sym same) ∙ there.here in
      let is : y ≡ f = (cc) in inl (same, is))
      (λ t.
      let w = was_of older at i (slice_get old i) y (sym (changed i) ∙ sym (put.others i (eqb-false i at t)) ∙ there.here) there.stands in
      inr (record { node = w.0; there = record { here = w.1; stands = w.3 }; is = w.2 }));
}

-- the other free places stay free
pub free_put : (old mid new : List Node) (at : ℕ) (f : Node) (older : Option ℕ) (free : List ℕ) → IsFreePlace old free at → AreChanged (relinked older at) old mid → IsPut mid new at f → AreFree new free
free_put old mid new at f older free place changed put = record {
  each = λ i h.
      let was : IsFree old i = place.left.each i h in
      let other : i ≢ at = λ e. place.apart (subst (IsIn free) e h) in
      record { node = relinked older at i was.node; here = put.others i other ∙ changed i ∙ ap (option_map (relinked older at i)) was.here; none = was.none };
  once = place.left.once;
}
