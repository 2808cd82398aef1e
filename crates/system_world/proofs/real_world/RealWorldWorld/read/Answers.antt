-- A refused call keeps the files.
use Rattle.std.proofs.Common.{refl}
use Rattle.vio.proofs.WholeLemmas.{OnErr-always}
use Rattle.system_world.proofs.RealLemmas.{OnlyCounts-real}
use Rattle.system_world.proofs.real_world.RealWorldWorld.read.Goals as goal

pub returns-clause-err : goal.returns-clause-err
returns-clause-err c =
    let files = c.args.self.now.files.items in
    OnlyCounts-real c.read_answer.result files files c.args.self.now.faults c.read_answer.new.faults (OnErr-always c.read_answer.result refl) c.read_answer.ensures.grew
