-- Whole numbers in decimal digits (leading zeros are read: this project's choice).
use Rattle.std.specs.Prelude.{ℕ, ◌&&◌, nat_le, if◌then◌else◌, List, length, Option, Some, None}
use Rattle.std.specs.Char.{is_digit}
use Rattle.std.specs.List.{list_all}
use Rattle.std.specs.Str.Parse.{digits_value}

-- the number that a text of digits writes, where there is a digit and the number is in this range
abbrev pub whole_number : ℕ → ℕ → List ℕ → Option ℕ
whole_number low high text =
    if nat_le 1 (length text) && list_all (λ b. is_digit b 10) text && nat_le low (digits_value 10 text) && nat_le
    (digits_value 10 text) high
    then Some (digits_value 10 text) else None
