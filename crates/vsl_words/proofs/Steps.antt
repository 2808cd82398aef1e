-- Lists of bytes and of words.
use Rattle.std.proofs.Common.{ℕ, zero, suc, ◌+◌, ◌^◌, ◌<◌, List, [], ◌∷◌, ◌++◌, take, drop, get_or, arith, inl, inr}
use Rattle.std.specs.List.{AllByRecursion}
use Rattle.std.proofs.lemmas.Bool.{cases_lt}
use Rattle.std.proofs.lemmas.List.{length-take, get_or-take, get_or_past, get_or-drop}

-- each number is below a limit
abbrev pub AllBelow : ℕ → List ℕ → Type 0
AllBelow limit xs = (i : ℕ) → get_or xs i 0 < limit

-- each number is below 256
abbrev pub IsBytes : List ℕ → Type 0
IsBytes bytes = AllBelow 256 bytes

-- each number is below 2^32
abbrev pub IsWords : List ℕ → Type 0
IsWords words = AllBelow (2 ^ 32) words

pub below_cons : (limit x : ℕ) (xs : List ℕ) → x < limit → AllBelow limit xs → AllBelow limit (x ∷ xs)
below_cons limit x xs here after zero = here
below_cons limit x xs here after (suc i) = after i

pub below_append : (limit : ℕ) (xs ys : List ℕ) → AllBelow limit xs → AllBelow limit ys → AllBelow limit (xs ++ ys)
below_append limit [] ys all_x all_y = all_y
below_append limit (x ∷ xs) ys all_x all_y = below_cons limit x (xs ++ ys) (all_x 0) (below_append limit xs ys (λ i. all_x (suc i)) all_y)

pub below_take : (limit n : ℕ) (xs : List ℕ) → 0 < limit → AllBelow limit xs → AllBelow limit (take n xs)
below_take limit n xs some all i =
    elim (cases_lt i n) [
      | inl lt ↦ rw (get_or-take n xs i 0 lt) (all i)
      | inr le ↦ rw (get_or_past (take n xs) i 0 (omega (arith, length-take n xs))) some
    ]

pub below_drop : (limit n : ℕ) (xs : List ℕ) → AllBelow limit xs → AllBelow limit (drop n xs)
below_drop limit n xs all i = rw get_or-drop (all (n + i))

-- what holds of each element of two lists
pub all_append : {X : Type 0} (P : X → Type 0) (xs ys : List X) → AllByRecursion P xs → AllByRecursion P ys → AllByRecursion P (xs ++ ys)
all_append P [] ys all_x all_y = all_y
all_append P (x ∷ xs) ys all_x all_y = (all_x.0, all_append P xs ys all_x.1 all_y)
