-- the records that are left are still to be taken, and where the newest transaction of the VXID is known, it is there
use Rattle.std.proofs.Common.{length, IfSome}
use Rattle.txn_rows.specs.Grouping.{steps}
use Rattle.txn_rows.specs.Store.{IsOrdered}
use Rattle.txn_rows.specs.inside.Steps.{GoesOn}
use Rattle.txn_rows.proofs.steps.take_records.Given as goal

abbrev pub invariant-loop-rest : goal.invariant-loop-rest
invariant-loop-rest g l = record {
  ordered : (key : g.S.Store.Key) → IsOrdered (g.S.Store.holds key) g.S.Store.state l.initial.store → IsOrdered (g.S.Store.holds key) g.S.Store.state l.store;
  on : (key : g.S.Store.Key) → IsOrdered (g.S.Store.holds key) g.S.Store.state l.initial.store → GoesOn (g.S.Store.holds key) g.S.Store.state (g.S.Store.hand key) l.options.grouping (steps l.options l.vxid l.records (g.S.Store.state l.initial.store)) (steps l.options l.vxid l.rest (g.S.Store.state l.store)) l.initial.out.items l.out.items;
  known : IfSome l.known (λ at. g.S.Store.newest_at l.store l.vxid at);
}

abbrev pub decreases-loop-rest : goal.decreases-loop-rest
decreases-loop-rest g l = length l.rest
