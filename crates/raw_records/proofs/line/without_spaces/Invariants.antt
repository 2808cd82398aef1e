use Rattle.std.proofs.Common.{◌≡◌, length}
use Rattle.raw_records.specs.inside.Reading.{without_spaces}
use Rattle.raw_records.proofs.line.without_spaces.Given as goal

-- what is left has the same text behind its spaces
abbrev pub invariant-loop-b : goal.invariant-loop-b
invariant-loop-b l = without_spaces l.rest ≡ without_spaces l.text

abbrev pub decreases-loop-b : goal.decreases-loop-b
decreases-loop-b l = length l.rest
