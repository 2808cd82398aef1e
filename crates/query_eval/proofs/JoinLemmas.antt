-- Truths that are joined, one after the other.
use Rattle.std.proofs.Common.{◌≡◌, ℕ, zero, suc, ◌+◌, ◌<◌, ◌≤◌, ◌&&◌, ◌||◌, Bool, List, [], ◌∷◌, length, drop, set, get_or, refl, ap, sym, ◌∙◌, add-one, arith}
use Rattle.query_parser.specs.declared.test.Test.{Test}
use Rattle.query_eval.specs.Meaning.{meets_level}
use Rattle.query_eval.specs.inside.Truths.{joined, joined_from, marked_of}

one : (n : ℕ) (truths more : List Bool) (before other new : Bool) → n < length truths → n < length more → before ≡ get_or truths n before → other ≡ get_or more n other → new ≡ (before || other) →
    joined_from (suc n) (set truths n new) more ≡ joined_from n truths more
one n [] more before other new within in_more is_before is_other is = absurd (omega arith)
one n (truth ∷ truths) [] before other new within in_more is_before is_other is = absurd (omega arith)
one zero (truth ∷ truths) (b ∷ more) before other new within in_more is_before is_other is =
    ap (λ (x : Bool). x ∷ joined truths more) (is ∙ ap (λ (x : Bool). x || other) is_before ∙ ap (λ (x : Bool). truth || x) is_other)
one (suc n) (truth ∷ truths) (b ∷ more) before other new within in_more is_before is_other is =
    ap (λ (l : List Bool). truth ∷ l) (one n truths more before other new (omega arith) (omega arith) is_before is_other is)

-- one truth is joined
pub joined_one : (n : ℕ) (truths more whole : List Bool) (before other new : Bool) → n < length truths → n < length more → before ≡ get_or truths n before → other ≡ get_or more n other → new ≡ (before || other) →
    joined_from n truths more ≡ whole → joined_from (n + 1) (set truths n new) more ≡ whole
joined_one n truths more whole before other new within in_more is_before is_other is so_far = rw add-one (one n truths more before other new within in_more is_before is_other is ∙ so_far)

-- no truth is left to be joined
pub joined_past : (n : ℕ) (truths more : List Bool) → length truths ≤ n → joined_from n truths more ≡ truths
joined_past zero [] more past = refl
joined_past zero (truth ∷ truths) more past = absurd (omega arith)
joined_past (suc n) [] more past = refl
joined_past (suc n) (truth ∷ truths) [] past = refl
joined_past (suc n) (truth ∷ truths) (other ∷ more) past = ap (λ (l : List Bool). truth ∷ l) (joined_past n truths more (omega arith))

-- nothing is left to join
pub joined_end : (n : ℕ) (truths more : List Bool) → length more ≤ n → joined_from n truths more ≡ truths
joined_end zero [] more end = refl
joined_end zero (truth ∷ truths) [] end = refl
joined_end zero (truth ∷ truths) (other ∷ more) end = absurd (omega arith)
joined_end (suc n) [] more end = refl
joined_end (suc n) (truth ∷ truths) [] end = refl
joined_end (suc n) (truth ∷ truths) (other ∷ more) end = ap (λ (l : List Bool). truth ∷ l) (joined_end n truths more (omega arith))

-- what is behind the first of the tests that are left
next : {A : Type 0} (xs : List A) (n : ℕ) (x : A) (rest : List A) → drop n xs ≡ x ∷ rest → drop (suc n) xs ≡ rest
next [] zero x rest is = absurd (cc)
next [] (suc n) x rest is = absurd (cc)
next (y ∷ xs) zero x rest is = cc
next (y ∷ xs) (suc n) x rest is = next xs n x rest is

pub next_left : {A : Type 0} (xs : List A) (n : ℕ) (x : A) (rest : List A) → drop n xs ≡ x ∷ rest → drop (n + 1) xs ≡ rest
next_left xs n x rest is = rw add-one (next xs n x rest is)

-- there is no more than a truth for each test, and for each mark
pub marked_tests : (level : ℕ) (tests : List Test) (marks : List Bool) → length (marked_of level tests marks) ≤ length tests
marked_tests level [] marks = omega arith
marked_tests level (test ∷ tests) [] = omega arith
marked_tests level (test ∷ tests) (mark ∷ marks) = omega (arith, marked_tests level tests marks)

pub marked_marks : (level : ℕ) (tests : List Test) (marks : List Bool) → length (marked_of level tests marks) ≤ length marks
marked_marks level [] marks = omega arith
marked_marks level (test ∷ tests) [] = omega arith
marked_marks level (test ∷ tests) (mark ∷ marks) = omega (arith, marked_marks level tests marks)

-- the first of the tests that are left has a mark, and so a truth
pub marked_within : (level : ℕ) (tests : List Test) (marks : List Bool) (n : ℕ) (test : Test) (rest : List Test) → drop n tests ≡ test ∷ rest → n < length marks → n < length (marked_of level tests marks)
marked_within level [] marks zero test rest is within = absurd (cc)
marked_within level [] marks (suc n) test rest is within = absurd (cc)
marked_within level (t ∷ tests) [] n test rest is within = absurd (omega arith)
marked_within level (t ∷ tests) (mark ∷ marks) zero test rest is within = omega arith
marked_within level (t ∷ tests) (mark ∷ marks) (suc n) test rest is within = omega (arith, marked_within level tests marks n test rest is (omega arith))

pub marked_at : (level : ℕ) (tests : List Test) (marks : List Bool) (n : ℕ) (test : Test) (rest : List Test) (d other : Bool) → drop n tests ≡ test ∷ rest → n < length marks →
    (meets_level test.criterion.level level && get_or marks n d) ≡ get_or (marked_of level tests marks) n other
marked_at level [] marks zero test rest d other is within = absurd (cc)
marked_at level [] marks (suc n) test rest d other is within = absurd (cc)
marked_at level (t ∷ tests) [] n test rest d other is within = absurd (omega arith)
marked_at level (t ∷ tests) (m ∷ marks) zero test rest d other is within = let same : t ≡ test = cc in ap (λ (x : Test). meets_level x.criterion.level level && m) (sym same)
marked_at level (t ∷ tests) (m ∷ marks) (suc n) test rest d other is within = marked_at level tests marks n test rest d other is (omega arith)
