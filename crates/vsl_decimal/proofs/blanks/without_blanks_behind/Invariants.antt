use Rattle.std.proofs.Common.{◌≡◌, length}
use Rattle.vsl_decimal.specs.Prefix.{without_spaces_behind}
use Rattle.vsl_decimal.proofs.blanks.without_blanks_behind.Given as goal

-- what is the rest without blanks behind is the text without blanks behind
abbrev pub invariant-loop-b : goal.invariant-loop-b
invariant-loop-b l = without_spaces_behind l.rest ≡ without_spaces_behind l.text

abbrev pub decreases-loop-b : goal.decreases-loop-b
decreases-loop-b l = length l.rest
