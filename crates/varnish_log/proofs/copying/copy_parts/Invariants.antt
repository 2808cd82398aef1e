use Rattle.std.proofs.Common.{◌-◌, ◌^◌}
use Rattle.varnish_log.specs.inside.Copying.{AreCopied}
use Rattle.varnish_log.proofs.copying.copy_parts.Given as goal

-- pieces were copied so far
abbrev pub invariant-loop-at : goal.invariant-loop-at
invariant-loop-at g l = AreCopied l.fn.how l.fn.ends l.first l.buffer l.at (g.W.World.seen l.initial.world) (g.W.World.seen l.world)

abbrev pub decreases-loop-at : goal.decreases-loop-at
decreases-loop-at g l = 2 ^ 64 - l.at.came
