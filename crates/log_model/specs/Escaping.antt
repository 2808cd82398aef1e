-- Bytes that are printed as escapes (this project's choice).
use Rattle.std.specs.Prelude.{ℕ, ◌+◌, ◌/◌, ◌%◌, nat_lt, if◌then◌else◌, List, [], ◌∷◌, ◌++◌, codes}

-- a hexadecimal digit in lower case
abbrev pub hex_digit : ℕ → ℕ
hex_digit n = if nat_lt n 10 then 48 + n else 87 + n

-- a byte as `\x` and two digits
abbrev pub hex_escape : ℕ → List ℕ
hex_escape b = codes "\\x" ++ hex_digit (b / 16) ∷ hex_digit (b % 16) ∷ []
