-- the bytes so far are digits, and the value is theirs, which passes the range by a digit at most
use Rattle.std.proofs.Common.{◌≡◌, ◌+◌, ◌≤◌, true, take}
use Rattle.std.specs.Char.{is_digit}
use Rattle.std.specs.List.{list_all}
use Rattle.std.specs.Str.Parse.{digits_value}
use Rattle.vsl_decimal.proofs.whole.wide_number.Given as goal

abbrev pub invariant-loop-digit : goal.invariant-loop-digit
invariant-loop-digit l = record {
  digits : list_all (λ b. is_digit b 10) (take l.digit-index l.text) ≡ true;
  value : digits_value 10 (take l.digit-index l.text) ≡ l.value;
  small : l.value ≤ l.high + 9;
}
