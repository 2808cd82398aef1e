-- Numbers in two and in four digits.
use Rattle.std.proofs.Common.{◌≡◌, ℕ, suc, ◌+◌, ◌-◌, ◌/◌, ◌%◌, ◌<◌, ◌≤◌, ◌^◌, List, [], ◌∷◌, ◌++◌, length, length-append, replicate, refl, sym, ap, ◌∙◌, append_assoc, arith, nat_lt, Bool, true, false}
use Rattle.std.specs.Prelude.{decimal}
use Rattle.std.proofs.lemmas.Bool.{ne_eqb, le-ltb, ltb-true, ltb-false}
use Rattle.std.proofs.lemmas.List.{replicate_more}
use Rattle.std.proofs.lemmas.Fmt.{decimal_digit, decimal_step}
use Rattle.ncsa_format.specs.Civil.{padded, clock_text, hour_of, minute_of}
use Rattle.ncsa_format.specs.Line.{quoted, quoted_byte}

-- the last digit of a number
abbrev digit : ℕ → ℕ
digit n = 48 + n % 10

-- a digit is printed as it is
quoted_digit : (n : ℕ) → quoted_byte (digit n) ≡ digit n ∷ []
quoted_digit n =
    rw (ne_eqb (digit n) 34 (λ e. omega arith), ne_eqb (digit n) 92 (λ e. omega arith), ne_eqb (digit n) 10 (λ e. omega arith), ne_eqb (digit n) 13 (λ e. omega arith), ne_eqb (digit n) 9 (λ e. omega arith), le-ltb (digit n) 32 (omega arith), le-ltb 126 (digit n) (omega arith)) refl

-- before a text too
digit_then : (n : ℕ) (text : List ℕ) → quoted (digit n ∷ text) ≡ digit n ∷ quoted text
digit_then n text = ap (λ (l : List ℕ). l ++ quoted text) (quoted_digit n)

-- with a column more a number has its last digit behind the others
padded_more : (columns n : ℕ) → 0 < columns → n < 2 ^ 64 → padded (suc columns) n ≡ padded columns (n / 10) ++ digit n ∷ []
padded_more columns n some small = of_test (nat_lt n 10) refl
  where
    one : n < 10 → padded (suc columns) n ≡ padded columns (n / 10) ++ digit n ∷ []
    one few =
        let none : decimal (n / 10) ≡ 48 ∷ [] = ap decimal (omega arith) ∙ decimal_digit 0 (omega arith) in
        let same : 48 + n ≡ digit n = omega arith in
        let before : suc columns - 1 ≡ columns - 1 + 1 = omega arith in
        ap (λ (ds : List ℕ). replicate (suc columns - length ds) 48 ++ ds) (decimal_digit n few) ∙ ap (λ (k : ℕ). replicate k 48 ++ (48 + n) ∷ []) before
        ∙ ap (λ (l : List ℕ). l ++ (48 + n) ∷ []) (sym (replicate_more (columns - 1) 48)) ∙ ap (λ (d : ℕ). (replicate (columns - 1) 48 ++ 48 ∷ []) ++ d ∷ []) same
        ∙ ap (λ (ds : List ℕ). (replicate (columns - length ds) 48 ++ ds) ++ digit n ∷ []) (sym none)

    more : 10 ≤ n → padded (suc columns) n ≡ padded columns (n / 10) ++ digit n ∷ []
    more many =
        let step = decimal_step n many small in
        let left : suc columns - length (decimal n) ≡ columns - length (decimal (n / 10)) = omega (arith, ap length step, length-append (decimal (n / 10)) (digit n ∷ [])) in
        ap (λ (k : ℕ). replicate k 48 ++ decimal n) left ∙ ap (λ (l : List ℕ). replicate (columns - length (decimal (n / 10))) 48 ++ l) step ∙ sym (append_assoc (replicate (columns - length (decimal (n / 10))) 48) (decimal (n / 10)) (digit n ∷ []))

    of_test : (few : Bool) → nat_lt n 10 ≡ few → padded (suc columns) n ≡ padded columns (n / 10) ++ digit n ∷ []
    of_test true e = one (ltb-true n 10 e)
    of_test false e = more (ltb-false n 10 e)

-- a number in one digit
padded_one : (n : ℕ) → n < 10 → padded 1 n ≡ digit n ∷ []
padded_one n few = let same : n ≡ n % 10 = omega arith in rw (decimal_digit n few) (ap (λ (d : ℕ). (48 + d) ∷ []) same)

-- in two
padded_two : (n : ℕ) → n < 100 → padded 2 n ≡ digit (n / 10) ∷ digit n ∷ []
padded_two n few = padded_more 1 n (omega arith) (omega arith) ∙ ap (λ (l : List ℕ). l ++ digit n ∷ []) (padded_one (n / 10) (omega arith))

-- and in four
padded_four : (n : ℕ) → n < 10_000 → padded 4 n ≡ digit (n / 1_000) ∷ digit (n / 100) ∷ digit (n / 10) ∷ digit n ∷ []
padded_four n few =
    let hundreds : n / 10 / 10 ≡ n / 100 = omega arith in
    let thousands : n / 10 / 10 / 10 ≡ n / 1_000 = omega arith in
    let front = padded_more 2 (n / 10) (omega arith) (omega arith) ∙ ap (λ (l : List ℕ). l ++ digit (n / 10) ∷ []) (padded_two (n / 10 / 10) (omega arith)) in
    padded_more 3 n (omega arith) (omega arith) ∙ ap (λ (l : List ℕ). l ++ digit n ∷ []) front
    ∙ ap (λ (k : ℕ). digit k ∷ digit (n / 10 / 10) ∷ digit (n / 10) ∷ digit n ∷ []) thousands ∙ ap (λ (k : ℕ). digit (n / 1_000) ∷ digit k ∷ digit (n / 10) ∷ digit n ∷ []) hundreds

-- as they are printed
pub quoted_two : (n : ℕ) → n < 100 → quoted (padded 2 n) ≡ digit (n / 10) ∷ digit n ∷ []
quoted_two n few = rw (padded_two n few, digit_then, digit_then) refl

pub quoted_four : (n : ℕ) → n < 10_000 → quoted (padded 4 n) ≡ digit (n / 1_000) ∷ digit (n / 100) ∷ digit (n / 10) ∷ digit n ∷ []
quoted_four n few = rw (padded_four n few, digit_then, digit_then, digit_then, digit_then) refl

-- and so is a clock
pub quoted_clock : (second : ℕ) → quoted (clock_text second) ≡ digit (hour_of second / 10) ∷ digit (hour_of second) ∷ 58 ∷ digit (minute_of second / 10) ∷ digit (minute_of second) ∷ 58 ∷ digit (second % 60 / 10) ∷ digit (second % 60) ∷ []
quoted_clock second =
    rw (padded_two (hour_of second) (omega arith), padded_two (minute_of second) (omega arith), padded_two (second % 60) (omega arith), quoted_digit, quoted_digit, quoted_digit, quoted_digit, quoted_digit, quoted_digit) refl
