-- none of the bytes so far is white space
use Rattle.std.proofs.Common.{◌≡◌, true, take}
use Rattle.std.specs.List.{list_all}
use Rattle.txn_rows.proofs.FirstFieldLemmas.{is_dark}
use Rattle.txn_rows.proofs.first_field.end_of_field.Given as goal

abbrev pub invariant-loop-i : goal.invariant-loop-i
invariant-loop-i l = list_all is_dark (take l.i l.text) ≡ true
