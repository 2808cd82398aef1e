-- no entry so far is open
use Rattle.std.proofs.Common.{◌≡◌, false, take}
use Rattle.std.specs.List.{list_any}
use Rattle.txn_groups.specs.inside.Order.{is_open_at}
use Rattle.txn_groups.proofs.oldest.first_open.Given as goal

abbrev pub invariant-loop-i : goal.invariant-loop-i
invariant-loop-i l = list_any (is_open_at l.nodes) (take l.i l.order) ≡ false
