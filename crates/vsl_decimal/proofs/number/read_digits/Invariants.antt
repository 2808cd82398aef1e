use Rattle.std.proofs.Common.{length, ◌-◌}
use Rattle.vsl_decimal.proofs.DecimalLemmas.{AreRead}
use Rattle.vsl_decimal.proofs.number.read_digits.Given as goal

-- the bytes before the count are digits, and the value is theirs
abbrev pub invariant-loop-count : goal.invariant-loop-count
invariant-loop-count l = AreRead l.text l.count l.value

abbrev pub decreases-loop-count : goal.decreases-loop-count
decreases-loop-count l = length l.text - l.count
