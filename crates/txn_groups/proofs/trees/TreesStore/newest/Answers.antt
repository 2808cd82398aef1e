use Rattle.txn_groups.proofs.TreesLemmas.{none_told}
use Rattle.txn_groups.proofs.trees.TreesStore.newest.Goals as goal

pub returns-clause-none : goal.returns-clause-none
returns-clause-none c = λ queries trees. none_told c.args.self.now.pending c.args.vxid c.newest.result trees.held c.newest.ensures
