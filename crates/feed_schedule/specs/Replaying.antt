-- What feeds that are replayed over a ring come to (this project's choice).
use Rattle.std.specs.Prelude.{◌≡◌, ℕ, ◌+◌, ◌*◌, ◌<◌, ◌≤◌, ◌==◌, true, List, [], ◌∷◌, ◌++◌, Option, Some, None}
use Rattle.std.specs.List.{sum_by}
use Rattle.vsl_record.specs.Unit.{LogUnit, Log}
use Rattle.vsl_record.specs.Words.{unit_words}
use Rattle.vsl_record.specs.Views.{Spells}
use Rattle.ring_layout.specs.Places.{AreFit, last_tail}
use Rattle.ring_plain.specs.Ring.{RingState, IsRingOf}
use Rattle.ring_plain.specs.Cursor.{CursorState, Stands}
use Rattle.traffic_feed.specs.Listing.{word_count}
use Rattle.feed_schedule.specs.declared.replay.Advanced.{Advanced}
use Rattle.feed_schedule.specs.declared.replay.Advanced.TheVariants.{Took, Overrun, Ended}
use Rattle.ring_layout.specs.History.{HasRun}
use Rattle.ring_layout.specs.declared.item.Item.{Item}
use Rattle.ring_layout.specs.declared.item.Item.TheVariants as items
use Rattle.feed_schedule.specs.Schedule.{Reading, Waits, Stage, after_turns, count_writers, has_ended, met}

-- how many words the units of feeds have
abbrev pub count_feed_words : List Log → ℕ
count_feed_words feeds = sum_by word_count feeds

-- what writers have still to put
abbrev pub waiting : List (Option Log) → Log
waiting [] = []
waiting (None ∷ writers) = waiting writers
waiting (Some units ∷ writers) = units ++ waiting writers

-- what contracts see of feeds that are replayed
pub record ReplayState : Type 0 where
  pub ring : RingState
  pub cursor : CursorState
  pub writers : List (Option Log)
  pub reading : Reading
  -- the number that was drawn last, where turns are drawn
  pub drawn : Option ℕ

-- writers stand between two turns: what was put is in the ring, and what is still to be put can be
pub record AreAt (ring : RingState) (writers : List (Option Log)) (log : Log) : Type 0 where
  pub in_ring : IsRingOf ring log
  pub ended : ring.ended ≡ (count_writers writers == 0)
  -- no unit has more words than a segment, and a unit moves the tail by at most twice its words
  pub fit : AreFit unit_words ring.seg (waiting writers)
  pub room : ring.tail + 2 * word_count (waiting writers) ≤ last_tail

-- a replay stands between two turns
pub record IsAt (r : ReplayState) (s : Stage) : Type 0 where
  pub wrote : AreAt r.ring r.writers s.log
  pub writers : r.writers ≡ s.writers
  pub drawn : r.drawn ≡ s.drawn
  pub same : r.cursor.seg ≡ r.ring.seg
  pub cursor : Stands r.cursor s.log s.number
  pub place : r.cursor.place ≡ s.place
  pub reading : r.reading ≡ s.reading
  -- the reader waits only for a writer
  pub waits : s.reading ≡ Waits → 0 < count_writers s.writers
  pub newest : HasRun s.history

-- what is still to come of a stage: what the reader meets in its turns, up to its end
abbrev pub IsToCome : ℕ → Stage → List Item → Type 0
IsToCome seg s more = (n : ℕ) × (has_ended (after_turns n seg s).reading ≡ true) ×
    (met (after_turns n seg s) ≡ met s ++ more)

-- these items are still to come
abbrev pub Represents : ReplayState → List Item → Type 0
Represents r more = (s : Stage) × IsAt r s × IsToCome r.ring.seg s more

-- what the reader met was the first of the items that were to come, and the others still are; at the end none was to come. What was taken stands in the cursor, and an
-- overrun comes with how many units were missed
abbrev pub Meets : Advanced → List Item → ReplayState → Type 0
Meets Took more now = (u : LogUnit) × (rest : List Item) × (more ≡ items.Unit u ∷ rest) × Represents now rest ×
    Spells now.cursor.words u
Meets (Overrun at seen missed) more now = (rest : List Item) ×
    (more ≡ items.Overrun at seen ∷ items.Missed missed ∷ rest) × Represents now rest
Meets Ended more now = (more ≡ []) × Represents now []
