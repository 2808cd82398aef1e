use Rattle.std.proofs.Common.{rules, ◌≡◌, Ok}
use Rattle.vslog.specs.Words.{job_as}
use Rattle.vslog.proofs.WorkLemmas.{settled_works}
use Rattle.vslog.proofs.run.work_off.Goals as goal

-- src/run.rt:20:1
pub returns-in-Ok : goal.returns-in-Ok
returns-in-Ok g c =
    rw c.settled.ensures
    (settled_works (job_as c.args.job) c.in-Ok.copied (g.W.World.seen c.args.world.now) (g.W.World.seen c.work.new.world) c.in-Ok.ensures.copied)
