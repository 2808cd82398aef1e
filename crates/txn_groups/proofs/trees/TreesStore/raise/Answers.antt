use Rattle.txn_rows.specs.Grouping.{raised, with_time}
use Rattle.txn_groups.specs.declared.trees.Trees.{Trees}
use Rattle.txn_groups.specs.inside.Trees.{state_of_trees}
use Rattle.txn_groups.proofs.MarkedLemmas.{marked_kept}
use Rattle.txn_groups.proofs.NoneBelowLemmas.{low_time}
use Rattle.txn_groups.proofs.TreesLemmas.{asks_them, trees_went}
use Rattle.txn_groups.proofs.trees.TreesStore.raise.Goals as goal

pub returns-clause-went : goal.returns-clause-went
returns-clause-went c = λ queries trees times.
    let t : Trees = c.args.self.now in
    trees_went queries (record t { pending = c.raise.new.pending }) (with_time c.args.told (state_of_trees t)) (low_time t.low (raised c.args.told t.pending.time) (state_of_trees t) trees.low) (asks_them queries t trees)
    (marked_kept queries t.pending.nodes.items c.raise.new.pending.nodes.items trees.marked c.raise.ensures.marks) (c.raise.ensures.went trees.held times)
