-- so many bytes were read
use Rattle.std.proofs.Common.{◌-◌}
use Rattle.job_steps.specs.inside.Tasks.{HasRead}
use Rattle.job_steps.proofs.objects.read_start.Given as goal

abbrev pub invariant-loop-size : goal.invariant-loop-size
invariant-loop-size g l = HasRead l.handle l.size l.start (g.W.World.seen l.initial.world) (g.W.World.seen l.world)

abbrev pub decreases-loop-size : goal.decreases-loop-size
decreases-loop-size g l = 8 - l.size
