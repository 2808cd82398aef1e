-- The bytes gathered so far are those that were read.
use Rattle.std.proofs.Common.{◌+◌, ◌-◌, vec_len}
use Rattle.vio.specs.World.{Read}
use Rattle.vio.proofs.whole.read_whole.Given as goal

abbrev pub invariant-loop-buffer : goal.invariant-loop-buffer
invariant-loop-buffer g l = Read l.h l.bytes.items (g.W.World.seen l.initial.world) (g.W.World.seen l.world)

abbrev pub decreases-loop-buffer : goal.decreases-loop-buffer
decreases-loop-buffer g l = l.limit + 1 - vec_len l.bytes
