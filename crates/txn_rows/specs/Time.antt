-- The time that a Timestamp tells (vsl(7), "Timestamp"), in units of 10^-18 seconds.
use Rattle.std.specs.Prelude.{ℕ, ℤ, pos, negsuc, nat_eq, if◌then◌else◌, Bool, false, List, [], ◌∷◌, Option, Some, None}
use Rattle.std.specs.List.{ends_with}
use Rattle.vsl_decimal.specs.Decimal.{decimal_of, scale}
use Rattle.vsl_decimal.specs.Field.{field_of}
use Rattle.vsl_decimal.specs.Prefix.{colon}
use Rattle.txn_rows.specs.Claim.{named}

-- so many units are a second
abbrev pub second : ℕ
second = scale

-- whether a field is there and ends with a colon
abbrev pub has_label : Option (List ℕ) → Bool
has_label None = false
has_label (Some text) = ends_with nat_eq text (colon ∷ [])

-- a number that is not below zero
abbrev pub at_least_zero : Option ℤ → Option ℕ
at_least_zero None = None
at_least_zero (Some (pos n)) = Some n
at_least_zero (Some (negsuc n)) = None

-- the absolute time of a Timestamp: `label: absolute`, a decimal that is not below zero; other payloads tell none. `-0`
-- is one, since its value is zero (this project's choice)
abbrev pub time_of : List ℕ → Option ℕ
time_of payload = if has_label (field_of payload 1) then at_least_zero (named decimal_of (field_of payload 2)) else None
