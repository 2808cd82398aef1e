-- A cursor over a ring on one thread, and what it answers (this project's choice).
use Rattle.std.specs.Prelude.{◌≡◌, ℕ, ◌+◌, ◌/◌, ◌≤◌, true, false, List, length, take, slice_get, Option, Some, None}
use Rattle.vsl_record.specs.Unit.{LogUnit, Log}
use Rattle.vsl_record.specs.Words.{unit_words}
use Rattle.vsl_record.specs.Views.{Spells}
use Rattle.ring_layout.specs.declared.steps.Step.{Step}
use Rattle.ring_layout.specs.declared.steps.Step.TheVariants.{Took, NotYet, Ended, Lost}
use Rattle.ring_layout.specs.Places.{overrun_distance, tail, segment_start}
use Rattle.ring_layout.specs.History.{first_number}
use Rattle.ring_layout.specs.Copied.{IsDueAt}
use Rattle.ring_plain.specs.Ring.{RingState}

-- what contracts see of a cursor: how many words a segment has, the place where it stands, how many units of the log start below it, the segment where it was overrun, and
-- the words and the number of the unit that it took last
pub record CursorState : Type 0 where
  pub seg : ℕ
  pub place : ℕ
  pub number : ℕ
  pub lost : Option ℕ
  pub words : List ℕ
  pub taken : ℕ

-- the cursor stands where the k-th unit of a log is due
pub record Stands (cursor : CursorState) (log : Log) (k : ℕ) : Type 0 where
  pub not_lost : cursor.lost ≡ None
  pub number : cursor.number ≡ k
  pub due : IsDueAt unit_words cursor.seg log k cursor.place

-- the cursor is overrun: the tail's segment is so many ahead of its own, or more
abbrev pub IsOverrun : RingState → CursorState → Type 0
IsOverrun ring cursor = cursor.place / cursor.seg + overrun_distance ≤ ring.counter

-- the segment where a cursor was overrun, if that is what it answers
abbrev pub overrun_at : Step → Option ℕ
overrun_at (Lost at seen) = Some at
overrun_at Took = None
overrun_at (NotYet place) = None
overrun_at Ended = None

-- the cursor took the k-th unit of a log, and stands behind it
pub record TookUnit (cursor : CursorState) (log : Log) (k : ℕ) : Type 0 where
  pub unit : LogUnit
  pub kth : slice_get log k ≡ Some unit
  pub spells : Spells cursor.words unit
  pub number : cursor.taken ≡ k
  pub stands : Stands cursor log (k + 1)
  pub place : cursor.place ≡ tail unit_words cursor.seg (take (k + 1) log)

-- what `next` answers where the cursor stands at the k-th unit of a log that the ring stands for, and what it leaves
abbrev pub Answers : RingState → Log → ℕ → Step → CursorState → CursorState → Type 0
Answers ring log k (Lost at seen) old new = IsOverrun ring old × (at ≡ old.place / old.seg) × (seen ≡ ring.counter) ×
    (new ≡ record old { lost = Some at })
Answers ring log k Took old new = ¬ IsOverrun ring old × TookUnit new log k
Answers ring log k (NotYet place) old new = ¬ IsOverrun ring old × (k ≡ length log) × (ring.ended ≡ false) ×
    (place ≡ old.place) × (new ≡ old)
Answers ring log k Ended old new = ¬ IsOverrun ring old × (k ≡ length log) × (ring.ended ≡ true) × (new ≡ old)

-- the cursor stands at the start of a segment, where the first unit of a log is due that starts there or later
pub record StandsAtStart (cursor : CursorState) (log : Log) (segment : ℕ) : Type 0 where
  pub start : segment_start unit_words cursor.seg log segment ≡ Some cursor.place
  pub stands : Stands cursor log (first_number unit_words cursor.seg log segment)
