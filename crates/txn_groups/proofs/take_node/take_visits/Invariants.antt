-- the nodes of so many visits were taken out
use Rattle.std.proofs.Common.{◌≤◌, length, take}
use Rattle.txn_groups.specs.inside.Kin.{AreKin}
use Rattle.txn_groups.specs.inside.Indexed.{IsIndex}
use Rattle.txn_groups.specs.inside.Places.{AreFree}
use Rattle.txn_groups.specs.inside.Taken.{AreStanding, AreTaken}
use Rattle.txn_groups.proofs.take_node.take_visits.Given as goal

abbrev pub invariant-loop-i : goal.invariant-loop-i
invariant-loop-i l = AreStanding l.initial.pending.nodes.items l.visits → length l.visits ≤ l.initial.pending.rows → AreKin l.initial.pending.nodes.items → IsIndex l.initial.pending.nodes.items l.initial.pending.index → AreFree l.initial.pending.nodes.items l.initial.pending.free.items → AreTaken l.initial.pending l.pending (take l.i l.visits) l.members
