-- The views of all seats, where one is changed or added.
use Rattle.std.proofs.Common.{◌≡◌, ◌≢◌, ◌⊎◌, ℕ, zero, suc, ◌<◌, List, [], ◌∷◌, ◌++◌, length, set, sym, refl, ap, ◌∙◌, subst, ⊎_elim, inl, inr, arith}
use Rattle.std.specs.List.{AllByRecursion}
use mathlib.Core.Logic.{dite}
use mathlib.Core.Option.{some, some-injective, some-ne-none}
use native.Mathlib.Decide.{ℕ_discrete}
use lib.ListN.{get_elem?}
use Rattle.atomic_table.proofs.Lists.{at_set, set_here, set_else}
use Rattle.log_ring.specs.declared.rule.View.{View}
use Rattle.log_ring.specs.inside.Rule.{HasNumber, IsSeated}

pub all_map : {X : Type 0} (P Q : X → Type 0) (xs : List X) → ((x : X) → P x → Q x) → AllByRecursion P xs → AllByRecursion Q xs
all_map P Q [] f all = tt
all_map P Q (x ∷ xs) f all = (f x all.0, all_map P Q xs f all.1)

pub all_push : {X : Type 0} (P : X → Type 0) (xs : List X) (x : X) → AllByRecursion P xs → P x → AllByRecursion P (xs ++ x ∷ [])
all_push P [] x all here = (here, tt)
all_push P (y ∷ ys) x all here = (all.0, all_push P ys x all.1 here)

pub all_join : {X : Type 0} (P : X → Type 0) (xs ys : List X) → AllByRecursion P xs → AllByRecursion P ys → AllByRecursion P (xs ++ ys)
all_join P [] ys a b = b
all_join P (x ∷ xs) ys a b = (a.0, all_join P xs ys a.1 b)

module _ {X : Type 0} where
  pub inside_at : (vs : List X) (i : ℕ) (v : X) → get_elem? vs i ≡ some v → i < length vs
  inside_at [] i v e = absurd (some-ne-none v (sym e))
  inside_at (x ∷ xs) zero v e = omega arith
  inside_at (x ∷ xs) (suc i) v e = let h = inside_at xs i v e in omega arith

  pub some_at : (vs : List X) (i : ℕ) → i < length vs → (v : X) × (get_elem? vs i ≡ some v)
  some_at [] i l = absurd (omega arith)
  some_at (x ∷ xs) zero l = (x, refl)
  some_at (x ∷ xs) (suc i) l = some_at xs i (omega arith)

  pub at_new : (vs : List X) (u v : X) (j : ℕ) → get_elem? (vs ++ u ∷ []) j ≡ some v → (get_elem? vs j ≡ some v) ⊎ ((j ≡ length vs) × (u ≡ v))
  at_new [] u v zero e = inr (refl, some-injective u v e)
  at_new [] u v (suc j) e = absurd (some-ne-none v (sym e))
  at_new (x ∷ xs) u v zero e = inl e
  at_new (x ∷ xs) u v (suc j) e = ⊎_elim (λ t. inl t) (λ (t : (j ≡ length xs) × (u ≡ v)). inr (ap suc t.0, t.1)) (at_new xs u v j e)

  pub at_end : (vs : List X) (u : X) → get_elem? (vs ++ u ∷ []) (length vs) ≡ some u
  at_end [] u = refl
  at_end (x ∷ xs) u = at_end xs u

  -- what holds of the changed view and of all others holds of all
  pub seats_stay : (K : ℕ → X → Type 0) (vs : List X) (id : ℕ) (v' : X) → K id v' → ((j : ℕ) (v : X) → j ≢ id → get_elem? vs j ≡ some v → K j v)
      → (j : ℕ) (v : X) → get_elem? (set vs id v') j ≡ some v → K j v
  seats_stay K vs id v' mine others j v e = ⊎_elim (λ (t : (j ≡ id) × (v' ≡ v)). subst (λ (x : ℕ × X). K x.0 x.1) (λ i. (sym t.0 i, t.1 i)) mine)
      (λ (t : (j ≢ id) × (get_elem? vs j ≡ some v)). others j v t.0 t.1) (at_set vs id j v' v e)

-- a writer is still in its seat after a step of a seat that keeps its writers
pub seated_on : (seat : ℕ → ℕ) (vs : List View) (id k : ℕ) (v v' : View) → get_elem? vs id ≡ some v → (HasNumber k v.writers → HasNumber k v'.writers) → IsSeated seat vs k → IsSeated seat (set vs id v') k
seated_on seat vs id k v v' at keep q = dite (ℕ_discrete (seat k) id)
    (λ e. let had : v ≡ q.view = some-injective v q.view (sym at ∙ (ap (λ (z : ℕ). get_elem? vs z) (sym e) ∙ q.there)) in record {
      view = v';
      there = ap (λ (z : ℕ). get_elem? (set vs id v') z) e ∙ set_here vs id v' (inside_at vs id v at);
      has = keep (subst (λ (z : View). HasNumber k z.writers) (sym had) q.has);
    })
    (λ ne. record { view = q.view; there = set_else vs id (seat k) v' ne ∙ q.there; has = q.has })
