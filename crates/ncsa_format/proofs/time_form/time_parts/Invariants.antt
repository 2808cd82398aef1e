-- the parts so far, before those of the rest, are the parts of all
use Rattle.std.proofs.Common.{◌≡◌, ◌++◌, length}
use Rattle.std.specs.Prelude.{option_map}
use Rattle.ncsa_format.specs.Reading.{time_parts}
use Rattle.ncsa_format.proofs.time_form.time_parts.Given as goal

abbrev pub invariant-loop-first : goal.invariant-loop-first
invariant-loop-first l = option_map (λ more. l.parts ++ more) (time_parts l.rest) ≡ time_parts l.text

abbrev pub decreases-loop-first : goal.decreases-loop-first
decreases-loop-first l = length l.rest
