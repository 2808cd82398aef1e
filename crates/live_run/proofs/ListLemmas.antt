-- Sums over lists: a log that is an interleaving of lists has their sums.
use Rattle.std.proofs.Common.{◌≡◌, ℕ, zero, suc, ◌+◌, ◌<◌, Bool, cond, ltb, List, [], ◌∷◌, length, map, get_or, slice_get, Some, refl, ap, ◌∙◌, arith, eq-eqb, ne_eqb, lt-ltb, le-ltb}
use Rattle.std.specs.List.{range_with_len, sum_by}
use Rattle.std.proofs.lemmas.List.Sums.{sum_by-cons}
use Rattle.std.proofs.lemmas.Option.{same_Some}
use mathlib.Core.Logic.{dite}
use native.Mathlib.Decide.{ℕ_discrete, dec_lt}
use Rattle.log_model.specs.Interleaving.{given_to, IsInterleaving}

-- functions that agree on numbers agree on the list of them
pub map_range : (f g : ℕ → ℕ) (a n : ℕ) → ((k : ℕ) → k < a + n → f k ≡ g k) → map f (range_with_len a n) ≡ map g (range_with_len a n)
map_range f g a zero same = refl
map_range f g a (suc n) same = ap (λ (x : ℕ). x ∷ map f (range_with_len (a + 1) n)) (same a (omega arith)) ∙ ap (λ (l : List ℕ). g a ∷ l) (map_range f g (a + 1) n (λ k l. same k (omega arith)))

-- ---- by their owners

module _ {A : Type 0} (f : A → ℕ) where
  -- the sum of a log's elements whose owners are the number k or above it
  abbrev sum_above : ℕ → List ℕ → List A → ℕ
  sum_above k [] log = 0
  sum_above k (o ∷ os) [] = 0
  sum_above k (o ∷ os) (x ∷ log) = cond (ltb o k) 0 (f x) + sum_above k os log

  -- all owners are above zero
  above_all : (os : List ℕ) (log : List A) → length os ≡ length log → sum_above 0 os log ≡ sum_by f log
  above_all [] [] long = refl
  above_all [] (x ∷ log) long = absurd (omega arith)
  above_all (o ∷ os) [] long = absurd (omega arith)
  above_all (o ∷ os) (x ∷ log) long =
      let here : ◌≡◌ {A = ℕ} (cond (ltb o 0) 0 (f x)) (f x) = ap (λ (b : Bool). cond b 0 (f x)) (le-ltb o 0 (omega arith)) in
      omega (arith, here, above_all os log (omega arith), sum_by-cons f x log)

  -- none is above the number of lists
  above_none : (k : ℕ) (os : List ℕ) (log : List A) → ((i : ℕ) → i < length os → get_or os i 0 < k) → sum_above k os log ≡ 0
  above_none k [] log low = refl
  above_none k (o ∷ os) [] low = refl
  above_none k (o ∷ os) (x ∷ log) low =
      let here : ◌≡◌ {A = ℕ} (cond (ltb o k) 0 (f x)) 0 = ap (λ (b : Bool). cond b 0 (f x)) (lt-ltb o k (low 0 (omega arith))) in
      omega (arith, here, above_none k os log (λ i l. low (suc i) (omega arith)))

  -- what is given to a number is between it and the next
  above_given : (k : ℕ) (os : List ℕ) (log : List A) → sum_above k os log ≡ sum_by f (given_to k os log) + sum_above (suc k) os log
  above_given k [] log = refl
  above_given k (o ∷ os) [] = refl
  above_given k (o ∷ os) (x ∷ log) =
      let rest = above_given k os log in
      dite (dec_lt o k)
      (λ low.
      let a : ◌≡◌ {A = ℕ} (cond (ltb o k) 0 (f x)) 0 = ap (λ (b : Bool). cond b 0 (f x)) (lt-ltb o k low) in
      let b : ◌≡◌ {A = ℕ} (cond (ltb o (suc k)) 0 (f x)) 0 = ap (λ (b : Bool). cond b 0 (f x)) (lt-ltb o (suc k) (omega arith)) in
      let c : sum_by f (given_to k (o ∷ os) (x ∷ log)) ≡ sum_by f (given_to k os log) = ap (λ (b : Bool). sum_by f (cond b (x ∷ given_to k os log) (given_to k os log))) (ne_eqb o k (omega arith)) in
      omega (arith, rest, a, b, c))
      (λ high. let a : ◌≡◌ {A = ℕ} (cond (ltb o k) 0 (f x)) (f x) = ap (λ (b : Bool). cond b 0 (f x)) (le-ltb o k (omega arith)) in
      dite (ℕ_discrete o k)
      (λ e.
      let b : ◌≡◌ {A = ℕ} (cond (ltb o (suc k)) 0 (f x)) 0 = ap (λ (b : Bool). cond b 0 (f x)) (lt-ltb o (suc k) (omega arith)) in
      let c : sum_by f (given_to k (o ∷ os) (x ∷ log)) ≡ sum_by f (x ∷ given_to k os log) = ap (λ (b : Bool). sum_by f (cond b (x ∷ given_to k os log) (given_to k os log))) (eq-eqb o k e) in
      omega (arith, rest, a, b, c, sum_by-cons f x (given_to k os log)))
      (λ ne.
      let b : ◌≡◌ {A = ℕ} (cond (ltb o (suc k)) 0 (f x)) (f x) = ap (λ (b : Bool). cond b 0 (f x)) (le-ltb o (suc k) (omega arith)) in
      let c : sum_by f (given_to k (o ∷ os) (x ∷ log)) ≡ sum_by f (given_to k os log) = ap (λ (b : Bool). sum_by f (cond b (x ∷ given_to k os log) (given_to k os log))) (ne_eqb o k ne) in
      omega (arith, rest, a, b, c)))

  -- the lists from a number on, and what is above them
  lists_sum : (k : ℕ) (os : List ℕ) (log : List A) (lists : List (List A)) → ((i j : ℕ) → i < length lists → j ≡ k + i → slice_get lists i ≡ Some (given_to j os log))
      → sum_above k os log ≡ sum_by (sum_by f) lists + sum_above (k + length lists) os log
  lists_sum k os log [] whole =
      let same : sum_above k os log ≡ sum_above (k + length {A = List A} []) os log = ap (λ (j : ℕ). sum_above j os log) (omega arith) in
      omega (arith, same)
  lists_sum k os log (l ∷ lists) whole =
      let first : l ≡ given_to k os log = same_Some l (given_to k os log) (whole 0 k (omega arith) (omega arith)) in
      let sums = ap (sum_by f) first in
      let rest = lists_sum (suc k) os log lists (λ i j below is. whole (suc i) j (omega arith) (omega arith)) in
      let ends : sum_above (k + length (l ∷ lists)) os log ≡ sum_above (suc k + length lists) os log = ap (λ (j : ℕ). sum_above j os log) (omega arith) in
      omega (arith, above_given k os log, sums, rest, ends, sum_by-cons (sum_by f) l lists)

-- an interleaving has the sum of its lists' sums
pub interleaving_sum : {A : Type 0} (f : A → ℕ) (log : List A) (lists : List (List A)) → IsInterleaving log lists → sum_by f log ≡ sum_by (sum_by f) lists
interleaving_sum f log lists h =
    let all = above_all f h.owners log h.one_each in
    let parts = lists_sum f 0 h.owners log lists (λ i j below is. h.whole i below ∙ ap (λ (k : ℕ). Some (given_to k h.owners log)) (omega arith)) in
    let ends : sum_above f (0 + length lists) h.owners log ≡ sum_above f (length lists) h.owners log = ap (λ (k : ℕ). sum_above f k h.owners log) (omega arith) in
    omega (arith, all, parts, ends, above_none f (length lists) h.owners log h.are_lists)
