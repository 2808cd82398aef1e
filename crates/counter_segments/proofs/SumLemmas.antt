-- Lists of sums, number by number.
use Rattle.std.proofs.Common.{◌≡◌, ℕ, zero, suc, ◌+◌, List, [], ◌∷◌, ◌++◌, map, get_or, replicate, sym, refl, ap, ◌∙◌, arith}
use Rattle.std.proofs.lemmas.List.{get_or-replicate, get_or_past, length-replicate}
use Rattle.std.specs.List.{range_with_len}
use Rattle.std.proofs.lemmas.List.FromFn.{map-range_with_len_more}
use mathlib.Core.Logic.{dite}
use native.Mathlib.Decide.{dec_lt}
use Rattle.counter_segments.specs.inside.Rule.{plus}

-- lists of sums are added number by number
pub plus_at : (xs ys : List ℕ) (i : ℕ) → get_or (plus xs ys) i 0 ≡ get_or xs i 0 + get_or ys i 0
plus_at [] ys i = omega arith
plus_at (x ∷ xs) [] i = omega arith
plus_at (x ∷ xs) (y ∷ ys) zero = refl
plus_at (x ∷ xs) (y ∷ ys) (suc i) = plus_at xs ys i

-- zeros have zero everywhere
pub zeros_at : (n i : ℕ) → get_or (replicate {A = ℕ} n 0) i 0 ≡ 0
zeros_at n i = dite (dec_lt i n) (λ below. get_or-replicate {A = ℕ} n i 0 0 below) (λ past. get_or_past {X = ℕ} (replicate n 0) i 0 (let long = length-replicate {A = ℕ} n 0 in omega arith))

-- the values of the numbers below the next one
pub values_more : (f : ℕ → ℕ) (values : List ℕ) (i value : ℕ) → values ≡ map f (range_with_len 0 i) → value ≡ f i → values ++ value ∷ [] ≡ map f (range_with_len 0 (i + 1))
values_more f values i value so_far is = ap (λ (l : List ℕ). l ++ value ∷ []) so_far ∙ (ap (λ (x : ℕ). map f (range_with_len 0 i) ++ x ∷ []) is ∙ sym (map-range_with_len_more f 0 i i (omega arith)))
