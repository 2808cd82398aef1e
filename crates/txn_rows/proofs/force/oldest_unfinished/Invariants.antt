-- the rows so far have ended
use Rattle.std.proofs.Common.{◌≡◌, false, map, take}
use Rattle.std.specs.List.{list_any}
use Rattle.txn_rows.specs.Grouping.{is_unfinished}
use Rattle.txn_rows.specs.Trees.{transaction_of}
use Rattle.txn_rows.proofs.force.oldest_unfinished.Given as goal

abbrev pub invariant-loop-i : goal.invariant-loop-i
invariant-loop-i l = list_any is_unfinished (map transaction_of (take l.i l.rows)) ≡ false
