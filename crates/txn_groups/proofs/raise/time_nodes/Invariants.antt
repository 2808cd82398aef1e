-- the nodes so far have a time, and the others are as they were
use Rattle.txn_rows.specs.Grouping.{timed}
use Rattle.txn_groups.proofs.ToldLemmas.{ToldBelow}
use Rattle.txn_groups.proofs.raise.time_nodes.Given as goal

abbrev pub invariant-loop-i : goal.invariant-loop-i
invariant-loop-i l = ToldBelow (timed l.now) l.i l.initial.nodes.items l.nodes.items
