-- the records so far tell nothing but themselves
use Rattle.std.proofs.Common.{◌≡◌, true, take}
use Rattle.std.specs.List.{list_all}
use Rattle.txn_rows.specs.inside.Told.{is_plain_record}
use Rattle.txn_rows.proofs.run.plain_run.Given as goal

abbrev pub invariant-loop-i : goal.invariant-loop-i
invariant-loop-i l = list_all is_plain_record (take l.i l.records) ≡ true
