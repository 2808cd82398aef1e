-- a part of the bytes is left
use Rattle.std.proofs.Common.{length}
use Rattle.vsl_top.proofs.hashing.Told.take.Given as goal

abbrev pub decreases-loop-left : goal.decreases-loop-left
decreases-loop-left l = length l.left
