-- What contracts see of a reader, and what `next` and `seek` answer, find and leave (this project's choice).
use Rattle.std.specs.Prelude.{◌≡◌, ◌⊎◌, ℕ, ◌+◌, ◌-◌, ◌*◌, ◌/◌, ◌≤◌, ◌<◌, true, false, List, [], ◌∷◌, ◌++◌, length, reverse, map, Some, None}
use Rattle.std.specs.List.{AllByRecursion}
use Rattle.std.specs.List.{range_with_len}
use Rattle.vsl_record.specs.Unit.{LogUnit}
use Rattle.vsl_record.specs.Words.{unit_words}
use Rattle.ring_layout.specs.declared.steps.Sought.{Sought}
use Rattle.ring_layout.specs.declared.steps.Sought.TheVariants as sought
use Rattle.ring_layout.specs.declared.steps.Step.{Step}
use Rattle.ring_layout.specs.declared.steps.Step.TheVariants.{Took, NotYet, Ended, Lost}
use Rattle.vsl_record.specs.Views.{Spells}
use Rattle.ring_layout.specs.declared.history.HistoryItem.TheVariants.{UnitRun, Overrun}
use Rattle.log_ring.specs.declared.rule.ReaderView.{ReaderView}
use Rattle.log_ring.specs.declared.rule.Unchecked.TheVariants.{Nothing}
use Rattle.log_ring.specs.declared.rule.Observation.{Observation}
use Rattle.log_ring.specs.declared.rule.Observation.TheVariants.{CounterSeen, FinishedSeen, WordSeen, StartSeen, NumberSeen}
use Rattle.ring_layout.specs.Places.{overrun_distance, seek_distance, end_mark}
use Rattle.ring_layout.specs.History.{HasRun, next_number, with_unit}
use Rattle.ring_layout.specs.declared.history.HistoryItem.{HistoryItem}
use Rattle.log_ring.specs.Ring.{RingSet}

-- what contracts see of a reader: of which ring it is, where it stands and what it took (the newest first), and the words and the number of the unit that it took last
pub record ReaderState : Type 0 where
  pub ring : RingSet
  pub reader : ReaderView
  pub words : List ℕ
  pub taken : ℕ

-- a reader that took nothing
abbrev pub new_reader : ReaderView
new_reader = record {
  place = 0;
  number = 0;
  lost = None;
  items = UnitRun (record { segment = 0; first = 0; missed = 0; units = [] }) ∷ [];
  unchecked = Nothing;
  loaded = 0;
  finished_seen = 0;
  observed = [];
  ended = false;
}

-- the pass of such a reader
abbrev pub new_pass : RingSet → ReaderState
new_pass ring = record { ring = ring; reader = new_reader; words = []; taken = 0 }

-- so many of them
abbrev pub new_passes : RingSet → ℕ → List ReaderState
new_passes ring m = map (λ (k : ℕ). new_pass ring) (range_with_len 0 m)

-- these readers are of the ring
abbrev pub AreReadersOf : RingSet → List ReaderState → Type 0
AreReadersOf ring rs = AllByRecursion (λ (r : ReaderState). r.ring ≡ ring) rs

-- what a reader took, the oldest first
abbrev pub history_of : ReaderView → List (HistoryItem LogUnit)
history_of r = reverse r.items

-- what was taken by a pass
abbrev pub history_taken : ReaderState → List (HistoryItem LogUnit)
history_taken r = history_of r.reader

-- a reader was overrun in this segment, by this counter, which it found last and which is six segments ahead or more; and this is what it took last
pub record WasOverrun (at seen : ℕ) (old new : ReaderState) : Type 0 where
  pub far : at + overrun_distance ≤ seen
  pub loaded : new.reader.loaded ≡ seen
  pub lost : new.reader.lost ≡ Some at
  pub items : new.reader.items ≡ Overrun at seen ∷ old.reader.items

-- a reader whose newest item is a run took the unit that starts at a place into it, and lends it. The counter that it found last is less than six segments ahead of that
-- place
pub record TookUnit (old new : ReaderState) : Type 0 where
  pub reads_on : HasRun old.reader.items
  pub unit : LogUnit
  pub spells : Spells new.words unit
  pub items : new.reader.items ≡ with_unit unit old.reader.items
  pub number : new.taken ≡ next_number old.reader.items
  pub not_lost : new.reader.lost ≡ None
  pub start : ℕ
  pub behind : new.reader.place ≡ start + length (unit_words unit)
  pub near : new.reader.loaded < start / old.ring.seg + overrun_distance

-- a reader stands at a place where it took nothing. The counter that it found last is less than six segments ahead
pub record TookNothing (place : ℕ) (old new : ReaderState) : Type 0 where
  pub place_is : new.reader.place ≡ place
  pub items : new.reader.items ≡ old.reader.items
  pub not_lost : new.reader.lost ≡ None
  pub near : new.reader.loaded < place / old.ring.seg + overrun_distance

-- what a reader answers, and what it is left with: it took a unit; it found that a writer was there and no unit is due yet; it found that all writers had left and none will
-- be; or it was overrun
abbrev pub IsAnswer : ReaderState → Step → ReaderState → Type 0
IsAnswer old Took new = TookUnit old new
IsAnswer old (NotYet p) new = TookNothing p old new × (new.reader.finished_seen < old.ring.writers)
IsAnswer old Ended new = TookNothing new.reader.place old new × (old.ring.writers ≤ new.reader.finished_seen) ×
    (new.reader.ended ≡ true)
IsAnswer old (Lost at seen) new = WasOverrun at seen old new

-- a call looked at this place: that of the cursor, or the next lap's, where it went on
abbrev pub IsReadAt : ReaderState → ℕ → Type 0
IsReadAt old p = (p ≡ old.reader.place) ⊎ (p ≡ (old.reader.place / (8 * old.ring.seg) + 1) * (8 * old.ring.seg))

-- a call found the number of writers that left, then this word at this place, and then the counter, and these last
pub record FoundAt (place word : ℕ) (old new : ReaderState) : Type 0 where
  pub here : IsReadAt old place
  pub before : List Observation
  pub observed : new.reader.observed ≡ CounterSeen new.reader.loaded ∷ WordSeen place word ∷
      FinishedSeen new.reader.finished_seen ∷ (before ++ old.reader.observed)

-- a call found this counter last
pub record FoundCounter (seen : ℕ) (old new : ReaderState) : Type 0 where
  pub before : List Observation
  pub observed : new.reader.observed ≡ CounterSeen seen ∷ (before ++ old.reader.observed)

-- what a call of `next` found: where it took a unit, a word at the unit's place; the end mark at its place where it answers that no unit is due; and the counter that it tells
-- where it was overrun. So a clause can say what this call looked at, for every answer and not for the last alone; the
-- program keeps none of it
abbrev pub HasFound : ReaderState → Step → ReaderState → Type 0
HasFound old Took new = (place : ℕ) ×
    ((word : ℕ) × FoundAt place word old new × (new.reader.place ≡ place + length new.words))
HasFound old (NotYet p) new = FoundAt p end_mark old new
HasFound old Ended new = FoundAt new.reader.place end_mark old new
HasFound old (Lost at seen) new = FoundCounter seen old new

-- a cursor that was overrun and didn't seek is overrun in the same segment again, by the counter, which is all that the call looks at
pub record StaysLost (old : ReaderState) (step : Step) (new : ReaderState) : Type 0 where
  pub again : (at : ℕ) → old.reader.lost ≡ Some at → step ≡ Lost at new.reader.loaded
  pub observed : (at : ℕ) → old.reader.lost ≡ Some at →
      new.reader.observed ≡ CounterSeen new.reader.loaded ∷ old.reader.observed

-- a call that seeks found a counter first, then a place as the start of the segment four behind it, then the number of that segment's first unit, and then another counter
pub record HasLooked (segment place number seen : ℕ) (old new : ReaderState) : Type 0 where
  pub counter : ℕ
  pub segment_is : segment ≡ counter - seek_distance
  pub observed : new.reader.observed ≡ CounterSeen seen ∷ NumberSeen segment number ∷ StartSeen segment place ∷
      CounterSeen counter ∷ old.reader.observed

-- a reader goes on at this place in this segment, to which no counter is six segments ahead yet, with a run of no unit, which isn't its first. The run begins with the unit
-- of this number, and tells how many were missed since the run before
pub record GoesOn (segment place number : ℕ) (old new : ReaderState) : Type 0 where
  pub looked : HasLooked segment place number new.reader.loaded old new
  pub near : new.reader.loaded < segment + overrun_distance
  pub place_is : new.reader.place ≡ place
  pub not_lost : new.reader.lost ≡ None
  pub later : 0 < length old.reader.items
  pub behind : next_number old.reader.items ≤ number
  pub items : new.reader.items ≡ UnitRun
      (record { segment = segment; first = number; missed = number - next_number old.reader.items; units = [] }) ∷
      old.reader.items

-- where a reader that sought goes on: at the start of the segment four behind the counter that this call found first; or it was overrun there
abbrev pub IsSought : ReaderState → Sought → ReaderState → Type 0
IsSought old (sought.At s p n) new = GoesOn s p n old new
IsSought old (sought.Lost at seen) new = WasOverrun at seen old new ×
    ((p : ℕ) × ((n : ℕ) × HasLooked at p n seen old new))
