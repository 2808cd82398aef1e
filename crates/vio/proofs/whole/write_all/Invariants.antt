-- A prefix of the piece has been written, and the rest is left.
use Rattle.std.proofs.Common.{length}
use Rattle.vio.proofs.WholeLemmas.{IsPartlyWritten}
use Rattle.vio.proofs.whole.write_all.Given as goal

abbrev pub invariant-loop-rest : goal.invariant-loop-rest
invariant-loop-rest g l = IsPartlyWritten l.h l.piece l.rest (g.W.World.seen l.initial.world) (g.W.World.seen l.world)

abbrev pub decreases-loop-rest : goal.decreases-loop-rest
decreases-loop-rest g l = length l.rest
