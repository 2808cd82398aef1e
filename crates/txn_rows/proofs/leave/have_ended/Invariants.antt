-- the rows of the tree so far have ended
use Rattle.std.proofs.Common.{◌≡◌, drop}
use Rattle.std.specs.List.{list_all}
use Rattle.txn_rows.specs.inside.Rows.{rows_below}
use Rattle.txn_rows.proofs.leave.have_ended.Given as goal

abbrev pub invariant-loop-i : goal.invariant-loop-i
invariant-loop-i l = list_all (λ row. row.ended) (rows_below l.root l.rows) ≡ list_all (λ row. row.ended) (rows_below l.root (drop l.i l.rows))
