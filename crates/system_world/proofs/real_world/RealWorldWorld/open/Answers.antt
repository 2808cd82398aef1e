-- A refused call keeps the files.
use Rattle.system_world.proofs.RealLemmas.{OnlyCounts-real}
use Rattle.system_world.proofs.real_world.RealWorldWorld.open.Goals as goal

pub returns-clause-err : goal.returns-clause-err
returns-clause-err c =
    OnlyCounts-real c.open_answer.result c.args.self.now.files.items c.open_answer.new.files.items c.args.self.now.faults
    c.open_answer.new.faults c.open_answer.ensures.same c.open_answer.ensures.grew
