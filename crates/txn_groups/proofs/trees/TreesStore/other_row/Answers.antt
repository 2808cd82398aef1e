use Rattle.txn_rows.specs.Grouping.{with_other}
use Rattle.txn_groups.specs.declared.trees.Trees.{Trees}
use Rattle.txn_groups.specs.inside.Trees.{state_of_trees}
use Rattle.txn_groups.proofs.NoneBelowLemmas.{low_other}
use Rattle.txn_groups.proofs.TreesLemmas.{asks_them, trees_keep}
use Rattle.txn_groups.proofs.trees.TreesStore.other_row.Goals as goal

pub returns-clause-went : goal.returns-clause-went
returns-clause-went c = λ queries trees.
    let t : Trees = c.args.self.now in
    trees_keep c.other_row.result queries t (record t { pending = c.other_row.new.pending }) (with_other c.args.vxid (state_of_trees t)) trees (low_other t.low c.args.vxid (state_of_trees t) trees.low) (asks_them queries t trees) (c.other_row.ensures.marks trees.held) (c.other_row.ensures.went trees.held)
