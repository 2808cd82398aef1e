use Rattle.std.proofs.Common.{◌≡◌, ◌≤◌, length, drop}
use Rattle.vsl_record.specs.Words.{unit_words}
use Rattle.ring_layout.specs.Content.{first_word}
use Rattle.log_ring.specs.declared.rule.Progress.TheVariants.{Storing}
use Rattle.log_ring.specs.inside.Steps.{with_progress, started}
use Rattle.log_ring.proofs.ring.Ring.store_words.Given as goal

-- the words below this one are stored, and the others are left
abbrev pub invariant-loop-place : goal.invariant-loop-place
invariant-loop-place g l =
    (l.seat.table_id ≡ l.initial.seat.table_id)
    × (l.seat.me ≡ (with_progress (Storing (record (started l.self.seg l.put.tail l.put.count l.put.unit.now) { word = l.place })) l.initial.seat.me.0, l.initial.seat.me.1))
    × (first_word unit_words l.self.seg l.put.tail (length (unit_words l.put.unit.now)) ≤ l.place)
    × (l.place ≤ length (unit_words l.put.unit.now))
    × (l.words ≡ drop l.place (unit_words l.put.unit.now))
