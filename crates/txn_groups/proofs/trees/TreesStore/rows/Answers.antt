use Rattle.txn_groups.proofs.TreesLemmas.{rows_pending}
use Rattle.txn_groups.proofs.trees.TreesStore.rows.Goals as goal

pub returns : goal.returns
returns c = λ queries trees. rows_pending c.args.self.now.pending trees.held
