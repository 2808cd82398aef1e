-- A world in memory tells all, whatever the handle.
use Rattle.vio.proofs.MemoryLemmas.{TellsAll-memory}
use Rattle.vio.proofs.memory.MemWorld.content.Goals as goal

pub returns-in-0-clause-tells : goal.returns-in-0-clause-tells
returns-in-0-clause-tells c = TellsAll-memory c.args.self.now

pub returns-in-1-clause-tells : goal.returns-in-1-clause-tells
returns-in-1-clause-tells c = TellsAll-memory c.args.self.now

pub returns-in-2-clause-tells : goal.returns-in-2-clause-tells
returns-in-2-clause-tells c = TellsAll-memory c.args.self.now

pub returns-in_default-clause-tells : goal.returns-in_default-clause-tells
returns-in_default-clause-tells c = TellsAll-memory c.args.self.now
