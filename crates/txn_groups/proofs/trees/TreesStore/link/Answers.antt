use Rattle.txn_groups.specs.declared.trees.Trees.{Trees}
use Rattle.txn_groups.specs.inside.Trees.{state_of_trees}
use Rattle.txn_groups.proofs.MarkedLemmas.{marked_kept}
use Rattle.txn_groups.proofs.NoneBelowLemmas.{low_link}
use Rattle.txn_groups.proofs.TreesLemmas.{asks_them, trees_went}
use Rattle.txn_groups.proofs.trees.TreesStore.link.Goals as goal

pub returns : goal.returns
returns c = λ queries trees.
    let t : Trees = c.args.self.now in
    trees_went queries (record t { pending = c.link_row.new.pending }) _ (low_link t.low c.args.child c.args.parent (state_of_trees t) trees.low) (asks_them queries t trees)
    (marked_kept queries t.pending.nodes.items c.link_row.new.pending.nodes.items trees.marked c.link_row.ensures.marks) (c.link_row.ensures.went c.args.child c.args.parent trees.held c.requires.child c.requires.parent)
