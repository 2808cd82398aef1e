-- the answer is still the answer for what is left
use Rattle.std.proofs.Common.{◌+◌, length}
use Rattle.vsl_stat.specs.inside.Reading.{IsSought}
use Rattle.vsl_stat.proofs.glob.matches_later.Given as goal

abbrev pub invariant-loop-behind : goal.invariant-loop-behind
invariant-loop-behind l = IsSought l.glob l.name l.glob_rest l.name_rest

abbrev pub decreases-loop-behind : goal.decreases-loop-behind
decreases-loop-behind l = length l.glob_rest + length l.name_rest
