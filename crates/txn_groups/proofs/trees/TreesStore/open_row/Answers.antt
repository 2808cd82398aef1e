use Rattle.txn_rows.specs.Grouping.{with_transaction}
use Rattle.txn_groups.specs.declared.trees.Trees.{Trees}
use Rattle.txn_groups.specs.inside.Trees.{state_of_trees}
use Rattle.txn_groups.proofs.NoneBelowLemmas.{low_transaction}
use Rattle.txn_groups.proofs.TreesLemmas.{asks_them, trees_keep}
use Rattle.txn_groups.proofs.trees.TreesStore.open_row.Goals as goal

pub returns-clause-went : goal.returns-clause-went
returns-clause-went c = λ queries trees.
    let t : Trees = c.args.self.now in
    trees_keep c.open_row.result queries t (record t { pending = c.open_row.new.pending }) (with_transaction c.args.vxid (state_of_trees t)) trees (low_transaction t.low c.args.vxid (state_of_trees t) trees.low) (asks_them queries t trees) (c.open_row.ensures.marks trees.held) (c.open_row.ensures.went trees.held)
