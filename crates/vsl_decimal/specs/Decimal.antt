-- Decimal numbers as a query writes them (vsl-query(7), "Operand"; the bounds and the scale are this project's choice).
use Rattle.std.specs.Prelude.{◌≡◌, ℕ, suc, ◌+◌, ◌-◌, ◌*◌, ◌/◌, ◌^◌, ◌<◌, ◌≤◌, nat_lt, nat_le, ◌==◌, ◌&&◌, Bool, if◌then◌else◌, ℤ, pos, negsuc, neg_ℤ, List, [], ◌∷◌, ◌++◌, length, codes, Option, None, Some, IfSome, option_map}
use Rattle.std.specs.Char.{is_digit}
use Rattle.std.specs.List.{list_all, slice_split}
use Rattle.std.specs.Str.Parse.{AllDigits, digits_value}

-- a part of a number has at most 18 digits
abbrev pub most_digits : ℕ
most_digits = 18

-- the scaled value of one: numbers are counted in parts of 10 ^ 18
abbrev pub scale : ℕ
scale = 10 ^ most_digits

-- the parts of a number, as written
pub record Numeral : Type 0 where
  pub negative : Bool
  pub whole : List ℕ
  pub fraction : Option (List ℕ)

-- a part is 1 to 18 digits
abbrev pub IsDigits : List ℕ → Type 0
IsDigits digits = AllDigits 10 digits × (0 < length digits) × (length digits ≤ most_digits)

-- a numeral has digits, and, if a period follows, digits behind it
abbrev pub IsNumeral : Numeral → Type 0
IsNumeral n = IsDigits n.whole × IfSome n.fraction IsDigits

-- the text of a fraction, with its period
abbrev pub print_fraction : Option (List ℕ) → List ℕ
print_fraction None = []
print_fraction (Some digits) = codes "." ++ digits

-- the text of a numeral
abbrev pub print_numeral : Numeral → List ℕ
print_numeral n = (if n.negative then codes "-" else []) ++ n.whole ++ print_fraction n.fraction

-- the value of a fraction, scaled
abbrev pub scaled_fraction : Option (List ℕ) → ℕ
scaled_fraction None = 0
scaled_fraction (Some digits) = digits_value 10 digits * 10 ^ (most_digits - length digits)

-- the value of a numeral without its sign, scaled
abbrev pub scaled_size : Numeral → ℕ
scaled_size n = digits_value 10 n.whole * scale + scaled_fraction n.fraction

-- the value of a numeral, scaled
abbrev pub scaled_value : Numeral → ℤ
scaled_value n = if n.negative then neg_ℤ (pos (scaled_size n)) else pos (scaled_size n)

-- the text is a numeral of this value
abbrev pub Spells : List ℕ → ℤ → Type 0
Spells text value = (n : Numeral) × IsNumeral n × (text ≡ print_numeral n) × (scaled_value n ≡ value)

-- whether a part is 1 to 18 digits
abbrev pub is_digits : List ℕ → Bool
is_digits part = nat_lt 0 (length part) && nat_le (length part) most_digits && list_all (λ c. is_digit c 10) part

-- the size, scaled, of a text whose parts between periods are these: digits, or digits and those of a fraction
abbrev pub size_of_parts : List (List ℕ) → Option ℕ
size_of_parts [] = None
size_of_parts (whole ∷ []) = if is_digits whole then Some (digits_value 10 whole * scale) else None
size_of_parts (whole ∷ fraction ∷ []) =
    if is_digits whole && is_digits fraction then Some (digits_value 10 whole * scale + scaled_fraction (Some fraction))
    else None
size_of_parts (whole ∷ fraction ∷ more ∷ parts) = None

-- the byte before a fraction
abbrev pub period : ℕ
period = 46

-- the size that a text without a sign spells, scaled, where it spells one
abbrev pub size_of : List ℕ → Option ℕ
size_of text = size_of_parts (slice_split (λ b. b == period) text)

-- the byte before a number below zero
abbrev pub minus : ℕ
minus = 45

-- the value that a text spells, scaled, where it spells one: a minus sign before a size negates it
abbrev pub decimal_of : List ℕ → Option ℤ
decimal_of [] = None
decimal_of (b ∷ text) = if b == minus then option_map (λ size. neg_ℤ (pos size)) (size_of text) else option_map pos
    (size_of (b ∷ text))

-- the integral part of a scaled value, cut toward zero. So `-0.5 == 0` holds in a query, as `200.9 == 200` does
abbrev pub integral_part : ℤ → ℤ
integral_part (pos value) = pos (value / scale)
integral_part (negsuc value) = neg_ℤ (pos (suc value / scale))
