use Rattle.std.proofs.Common.{◌-◌}
use Rattle.varnish_log.specs.inside.Copying.{HasRead}
use Rattle.varnish_log.proofs.first.read_first.Given as goal

-- so many bytes were read
abbrev pub invariant-loop-size : goal.invariant-loop-size
invariant-loop-size g l = HasRead l.input l.size l.first (g.W.World.seen l.initial.world) (g.W.World.seen l.world)

abbrev pub decreases-loop-size : goal.decreases-loop-size
decreases-loop-size g l = 4 - l.size
