use Rattle.std.proofs.Common.{◌≡◌, ◌/◌, ◌<◌, ◌≤◌}
use Rattle.log_ring.specs.declared.rule.Progress.TheVariants.{Storing}
use Rattle.log_ring.specs.inside.Steps.{with_progress, starting}
use Rattle.log_ring.proofs.ring.Ring.store_starts.Given as goal

-- the starts of the segments below this one are stored, and the numbers of their first units
abbrev pub invariant-loop-segment : goal.invariant-loop-segment
invariant-loop-segment g l =
    (l.seat.table_id ≡ l.initial.seat.table_id)
    × (l.seat.me ≡ (with_progress (Storing (starting l.self.seg l.put.tail l.put.count l.put.unit.now l.segment)) l.initial.seat.me.0, l.initial.seat.me.1))
    × (l.put.tail / l.self.seg < l.segment)
    × (l.segment ≤ l.upto)
