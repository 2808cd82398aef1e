-- the rows of the tree so far are taken
use Rattle.txn_rows.proofs.LeaveLemmas.{TakesOn}
use Rattle.txn_rows.proofs.leave.take_rows.Given as goal

abbrev pub invariant-loop-i : goal.invariant-loop-i
invariant-loop-i l = TakesOn l.root l.i l.initial.rows.items l.rows.items l.tree.items
