use Rattle.std.proofs.Common.{◌≡◌, length}
use Rattle.vsl_decimal.specs.Prefix.{without_spaces}
use Rattle.vsl_decimal.proofs.blanks.without_blanks.Given as goal

-- what is the rest without blanks is the text without blanks
abbrev pub invariant-loop-b : goal.invariant-loop-b
invariant-loop-b l = without_spaces l.rest ≡ without_spaces l.text

abbrev pub decreases-loop-b : goal.decreases-loop-b
decreases-loop-b l = length l.rest
