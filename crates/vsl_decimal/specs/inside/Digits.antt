-- The steps of reading a decimal (this project's choice).
use Rattle.std.specs.Prelude.{◌≡◌, ℕ, ◌+◌, ◌*◌, ◌≤◌, List, [], ◌∷◌, ◌++◌, length, Option, IfSome}
use Rattle.std.specs.Char.{digit_value}
use Rattle.std.specs.Str.Parse.{digits_value}
use Rattle.vsl_decimal.specs.Decimal.{IsDigits, print_fraction, scaled_fraction, scale}

-- the text doesn't begin with a digit
abbrev pub NoDigitFirst : List ℕ → Type 0
NoDigitFirst [] = Unit {0}
NoDigitFirst (c ∷ text) = 10 ≤ digit_value c

-- the text is digits of this value and number, and a rest that doesn't begin with a digit
pub record BeginsWithDigits (text : List ℕ) (value count : ℕ) (rest : List ℕ) : Type 0 where
  pub digits : List ℕ
  pub are_digits : IsDigits digits
  pub ends : NoDigitFirst rest
  pub parts : text ≡ digits ++ rest
  pub value_is : digits_value 10 digits ≡ value
  pub count_is : length digits ≡ count

-- the text is a fraction of this value
pub record SpellsFraction (text : List ℕ) (value : ℕ) : Type 0 where
  pub fraction : Option (List ℕ)
  pub are_digits : IfSome fraction IsDigits
  pub parts : text ≡ print_fraction fraction
  pub value_is : scaled_fraction fraction ≡ value

-- the text is a numeral of this value, with no sign
pub record SpellsSize (text : List ℕ) (value : ℕ) : Type 0 where
  pub whole : List ℕ
  pub fraction : Option (List ℕ)
  pub are_digits : IsDigits whole
  pub is_fraction : IfSome fraction IsDigits
  pub parts : text ≡ whole ++ print_fraction fraction
  pub value_is : digits_value 10 whole * scale + scaled_fraction fraction ≡ value
