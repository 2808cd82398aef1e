-- What single turns of a replay do (this project's choice).
use Rattle.std.specs.Prelude.{◌≡◌, ℕ, ◌+◌, ◌*◌, ◌<◌, if◌then◌else◌, true, List, [], ◌∷◌, ◌++◌, Option, Some, None}
use Rattle.std.specs.Option.{option_map}
use Rattle.vsl_record.specs.Unit.{LogUnit}
use Rattle.vsl_record.specs.Views.{Spells}
use Rattle.traffic_feed.specs.Turns.{next_draw}
use Rattle.ring_layout.specs.declared.item.Item.{Item}
use Rattle.ring_layout.specs.declared.item.Item.TheVariants as items
use Rattle.feed_schedule.specs.declared.replay.Advanced.{Advanced}
use Rattle.feed_schedule.specs.declared.replay.Advanced.TheVariants as answer
use Rattle.feed_schedule.specs.declared.replay.Reading.{Reading as KeptReading}
use Rattle.feed_schedule.specs.declared.replay.Reading.TheVariants as kept
use Rattle.feed_schedule.specs.Schedule.{Reading, Reads, Waits, Ended, Stage, count_writers, is_reading, has_ended, met}
use Rattle.feed_schedule.specs.Replaying.{ReplayState, IsAt}
use Rattle.feed_schedule.specs.Unread.{count_turns}

-- what the reader is about, as a schedule says it
abbrev pub stated : KeptReading → Reading
stated kept.Reads = Reads
stated kept.Waits = Waits
stated kept.Ended = Ended

-- what each replay is: it stands between two turns, and counts the writers that have not left
pub record IsSteady (active : ℕ) (r : ReplayState) : Type 0 where
  pub counted : active ≡ count_writers r.writers
  pub few : active < 4294967295
  pub stage : Stage
  pub at : IsAt r stage

-- a stage in which whose turn it is was drawn, where turns are drawn
abbrev pub with_draw : Stage → Stage
with_draw s = record s { drawn = option_map next_draw s.drawn }

-- how many turns may come at most before the reader meets something
abbrev pub turns_to_come : ReplayState → ℕ
turns_to_come r = 2 * count_turns r.writers + (if is_reading r.reading then 1 else 0)

-- the reader met what a turn answers, between what was met before it and after it, and nothing where it answers nothing; what was taken stands in the cursor
abbrev pub Adds : Option Advanced → ReplayState → List Item → List Item → Type 0
Adds None now before after = after ≡ before
Adds (Some answer.Took) now before after = (u : LogUnit) × (after ≡ before ++ items.Unit u ∷ []) ×
    Spells now.cursor.words u
Adds (Some (answer.Overrun at seen missed)) now before after =
    after ≡ before ++ items.Overrun at seen ∷ items.Missed missed ∷ []
Adds (Some answer.Ended) now before after = (after ≡ before) × (has_ended now.reading ≡ true)

-- a turn that answers this leads from a stage to another
abbrev pub Leads : Option Advanced → ReplayState → Stage → Stage → Type 0
Leads answer now s t = IsAt now t × Adds answer now (met s) (met t)
