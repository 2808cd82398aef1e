-- Sums over a list, where one element is another.
use Rattle.std.proofs.Common.{◌≡◌, ◌≢◌, ℕ, zero, suc, ◌+◌, ◌≤◌, List, [], ◌∷◌, set, sym, refl, ap, arith}
use Rattle.std.specs.Prelude.{sum_by}
use Rattle.std.proofs.lemmas.List.Sums.{sum_by-cons}
use mathlib.Core.Option.{some, some-injective, some-ne-none}
use lib.ListN.{get_elem?}

module _ {X : Type 0} (f : X → ℕ) where
  -- the sum where one element is another
  pub sum_set : (xs : List X) (id : ℕ) (v w : X) → get_elem? xs id ≡ some v → sum_by f (set xs id w) + f v ≡ sum_by f xs + f w
  sum_set [] id v w at = absurd (some-ne-none v (sym at))
  sum_set (x ∷ xs) zero v w at = let same : f x ≡ f v = ap f (some-injective x v at) in omega (arith, sum_by-cons f x xs, sum_by-cons f w xs)
  sum_set (x ∷ xs) (suc id) v w at = let rest = sum_set xs id v w at in omega (arith, sum_by-cons f x xs, sum_by-cons f x (set xs id w))

  -- an element's part of the sum is no more than the sum
  pub part_le_sum : (xs : List X) (id : ℕ) (v : X) → get_elem? xs id ≡ some v → f v ≤ sum_by f xs
  part_le_sum [] id v at = absurd (some-ne-none v (sym at))
  part_le_sum (x ∷ xs) zero v at = let same : f x ≡ f v = ap f (some-injective x v at) in omega (arith, sum_by-cons f x xs)
  part_le_sum (x ∷ xs) (suc id) v at = let rest = part_le_sum xs id v at in omega (arith, sum_by-cons f x xs)

  -- where one element has the whole sum, another has nothing
  pub rest_zero : (xs : List X) (id j : ℕ) (v w : X) → get_elem? xs id ≡ some v → get_elem? xs j ≡ some w → j ≢ id → sum_by f xs ≡ f v → f w ≡ 0
  rest_zero [] id j v w at there apart all = absurd (some-ne-none v (sym at))
  rest_zero (x ∷ xs) zero zero v w at there apart all = absurd (apart refl)
  rest_zero (x ∷ xs) zero (suc j) v w at there apart all = let same : f x ≡ f v = ap f (some-injective x v at) in let part = part_le_sum xs j w there in omega (arith, sum_by-cons f x xs)
  rest_zero (x ∷ xs) (suc id) zero v w at there apart all = let same : f x ≡ f w = ap f (some-injective x w there) in let part = part_le_sum xs id v at in omega (arith, sum_by-cons f x xs)
  rest_zero (x ∷ xs) (suc id) (suc j) v w at there apart all = let part = part_le_sum xs id v at in rest_zero xs id j v w at there (λ e. apart (ap suc e)) (omega (arith, sum_by-cons f x xs))

-- where each element has no more of one than of the other, so have the sums
pub sums_le : {X : Type 0} (f g : X → ℕ) (xs : List X) → ((id : ℕ) (v : X) → get_elem? xs id ≡ some v → f v ≤ g v) → sum_by f xs ≤ sum_by g xs
sums_le f g [] all = omega arith
sums_le f g (x ∷ xs) all = let mine = all 0 x refl in let rest = sums_le f g xs (λ id v at. all (suc id) v at) in omega (arith, sum_by-cons f x xs, sum_by-cons g x xs)

-- and where one has less, the sums do too
pub sums_lt : {X : Type 0} (f g : X → ℕ) (xs : List X) (id : ℕ) (v : X) → get_elem? xs id ≡ some v → f v + 1 ≤ g v → ((j : ℕ) (w : X) → get_elem? xs j ≡ some w → f w ≤ g w) → sum_by f xs + 1 ≤ sum_by g xs
sums_lt f g [] id v at less all = absurd (some-ne-none v (sym at))
sums_lt f g (x ∷ xs) zero v at less all =
    let same_f : f x ≡ f v = ap f (some-injective x v at) in
    let same_g : g x ≡ g v = ap g (some-injective x v at) in
    let rest = sums_le f g xs (λ id w there. all (suc id) w there) in omega (arith, sum_by-cons f x xs, sum_by-cons g x xs)
sums_lt f g (x ∷ xs) (suc id) v at less all =
    let mine = all 0 x refl in
    let rest = sums_lt f g xs id v at less (λ j w there. all (suc j) w there) in omega (arith, sum_by-cons f x xs, sum_by-cons g x xs)
