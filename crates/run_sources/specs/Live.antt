-- What a reader's pass met of a ring that threads share, as items of a run (this project's choice).
use Rattle.std.specs.Prelude.{◌≡◌, ℕ, ◌+◌, ◌≤◌, if◌then◌else◌, is_some, Bool, true, false, List, [], ◌∷◌, ◌++◌}
use Rattle.vsl_record.specs.Unit.{LogUnit}
use Rattle.vsl_record.specs.Views.{Spells}
use Rattle.ring_layout.specs.declared.item.Item.{Item}
use Rattle.ring_layout.specs.declared.item.Item.TheVariants as items
use Rattle.ring_layout.specs.Items.{items_of, count_overruns}
use Rattle.log_ring.specs.declared.rule.Observation.{Observation}
use Rattle.log_ring.specs.declared.rule.Observation.TheVariants.{CounterSeen, FinishedSeen, WordSeen, StartSeen, NumberSeen}
use Rattle.log_ring.specs.Readers.{ReaderState, history_taken}

-- the items that a pass met
abbrev pub met_by : ReaderState → List Item
met_by pass = items_of (history_taken pass)

-- how often a pass sought: so often it looked at where a segment starts
abbrev pub count_seeks : List Observation → ℕ
count_seeks [] = 0
count_seeks (StartSeen segment place ∷ observed) = 1 + count_seeks observed
count_seeks (CounterSeen counter ∷ observed) = count_seeks observed
count_seeks (FinishedSeen count ∷ observed) = count_seeks observed
count_seeks (WordSeen place word ∷ observed) = count_seeks observed
count_seeks (NumberSeen segment number ∷ observed) = count_seeks observed

-- a pass sought behind each overrun that it met, but behind the last where it has yet to
abbrev pub HasSought : ReaderState → Type 0
HasSought pass = count_overruns (met_by pass) ≤ count_seeks pass.reader.observed +
    (if is_some pass.reader.lost then 1 else 0)

-- what a pass met grew by these items; where they are all, it ended. So none of its overruns is told twice: it sought before it met the next
pub record LiveGave (start now : ReaderState) (met : List Item) (all : Bool) : Type 0 where
  pub same : now.ring ≡ start.ring
  pub grew : met_by now ≡ met_by start ++ met
  pub sought : HasSought start → HasSought now
  pub whole : all ≡ true → now.reader.ended ≡ true

-- it grew by these items and a unit, which it lends, and for whose copy there was no memory
abbrev pub LiveStarved : ReaderState → ReaderState → List Item → Type 0
LiveStarved start now met = (unit : LogUnit) × Spells now.words unit ×
    LiveGave start now (met ++ items.Unit unit ∷ []) false
