-- what was read is alike
use Rattle.std.proofs.Common.{length}
use Rattle.vsl_stat.specs.inside.Reading.{IsRead}
use Rattle.vsl_stat.proofs.glob.read_to_star.Given as goal

abbrev pub invariant-loop-byte : goal.invariant-loop-byte
invariant-loop-byte l = IsRead l.glob l.name l.glob_rest l.name_rest

abbrev pub decreases-loop-byte : goal.decreases-loop-byte
decreases-loop-byte l = length l.glob_rest
