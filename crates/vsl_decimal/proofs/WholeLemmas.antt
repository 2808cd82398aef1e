-- A whole number is read exactly where a text is digits whose value is in the range.
use Rattle.std.proofs.Common.{◌≡◌, ℕ, ◌≤◌, Bool, true, false, List, length, Option, Some, None, le-leb, leb-true, refl}
use Rattle.std.specs.Prelude.{IfSome, if◌then◌else◌}
use Rattle.std.specs.Str.Parse.{AllDigits, digits_value}
use Rattle.std.proofs.lemmas.Bool.{and_parts}
use Rattle.vsl_decimal.specs.Whole.{whole_number}
use Rattle.vsl_decimal.proofs.DecimalFunctions.{all_digits, AllDigits-from}

-- the text is digits that write this number, which is in the range
abbrev pub Writes : ℕ → ℕ → List ℕ → ℕ → Type 0
Writes low high text n = AllDigits 10 text × (1 ≤ length text) × (digits_value 10 text ≡ n) × (low ≤ n) × (n ≤ high)

pub whole_number-reads : (low high : ℕ) (text : List ℕ) (n : ℕ) → Writes low high text n → whole_number low high text ≡ Some n
whole_number-reads low high text n is = rw (le-leb _ _ is.1, all_digits text is.0, is.2, le-leb _ _ is.3, le-leb _ _ is.4) refl

picked : (P : ℕ → Type 0) (passed : Bool) (n : ℕ) → (passed ≡ true → P n) → IfSome (if passed then Some n else None) P
picked P true n is = is refl
picked P false n is = tt

pub whole_number-writes : (low high : ℕ) (text : List ℕ) → IfSome (whole_number low high text) (Writes low high text)
whole_number-writes low high text = picked (Writes low high text) _ (digits_value 10 text) (λ e.
    let most = and_parts _ _ e in
    let least = and_parts _ _ most.0 in
    let digits = and_parts _ _ least.0 in
    (AllDigits-from text digits.1, leb-true _ _ digits.0, refl, leb-true _ _ least.1, leb-true _ _ most.1))
