use Rattle.txn_rows.specs.Grouping.{ended_one}
use Rattle.txn_groups.specs.declared.trees.Trees.{Trees}
use Rattle.txn_groups.specs.inside.Trees.{state_of_trees}
use Rattle.txn_groups.proofs.NoneBelowLemmas.{low_ended}
use Rattle.txn_groups.proofs.TreesLemmas.{asks_them, trees_go_by}
use Rattle.txn_groups.proofs.trees.TreesStore.end_row.Goals as goal

pub returns-clause-ok : goal.returns-clause-ok
returns-clause-ok c = λ queries trees.
    let t : Trees = c.args.self.now in
    trees_go_by c.end_row.result queries (record t { pending = c.end_row.new.pending }) c.args.grouping (ended_one c.args.vxid (state_of_trees t)) c.args.out.now.items c.end_row.new.out.items (low_ended t.low c.args.vxid (state_of_trees t) trees.low) (asks_them queries t trees)
    (c.end_row.ensures.marks queries c.args.vxid trees.held c.requires trees.asks trees.marked) (c.end_row.ensures.ok queries c.args.vxid trees.held c.requires trees.asks trees.marked)
