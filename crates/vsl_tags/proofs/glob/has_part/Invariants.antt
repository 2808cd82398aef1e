-- the name has the text just where what is left of it has
use Rattle.std.proofs.Common.{◌≡◌, length}
use Rattle.vsl_tags.specs.Glob as spec
use Rattle.vsl_tags.proofs.glob.has_part.Given as goal

abbrev pub invariant-loop-rest : goal.invariant-loop-rest
invariant-loop-rest l = spec.has_part l.rest l.text ≡ spec.has_part l.name l.text

abbrev pub decreases-loop-rest : goal.decreases-loop-rest
decreases-loop-rest l = length l.rest
