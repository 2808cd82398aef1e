-- What is so of a ring once all its passes are given back: one log, and what each reader took and found of it (this project's choice).
use Rattle.std.specs.Prelude.{◌≡◌, ◌⊎◌, ℕ, ◌+◌, ◌/◌, ◌≤◌, ◌<◌, true, List, [], ◌∷◌, length, take, slice_get, Some, None}
use Rattle.vsl_record.specs.Unit.{LogUnit, Log}
use Rattle.vsl_record.specs.Words.{unit_words}
use Rattle.ring_layout.specs.declared.history.HistoryItem.TheVariants.{UnitRun, Overrun}
use Rattle.log_ring.specs.declared.rule.ReaderView.{ReaderView}
use Rattle.log_ring.specs.declared.rule.Observation.{Observation}
use Rattle.log_ring.specs.declared.rule.Observation.TheVariants.{CounterSeen, FinishedSeen, WordSeen, StartSeen, NumberSeen}
use Rattle.ring_layout.specs.Places.{end_mark, end_at, tail, segment_start}
use Rattle.ring_layout.specs.History.{first_number, RunStands, UnitStarts, IsReadHistory, ReachesTail}
use Rattle.ring_layout.specs.declared.history.HistoryItem.{HistoryItem}
use Rattle.log_ring.specs.Writers.{WriterState}
use Rattle.log_ring.specs.Readers.{ReaderState, history_of}

-- what contracts see of a closed ring: the one log, what each reader took of it, the oldest first, and how often its writers found the write token taken
pub record ClosedState : Type 0 where
  pub log : Log
  pub histories : List (List (HistoryItem LogUnit))
  pub busy : ℕ

-- units that are put from a tail on, each beside the tail at which it is put
abbrev pub entries_from : (LogUnit → List ℕ) → ℕ → ℕ → Log → List (ℕ × LogUnit)
entries_from words seg t [] = []
entries_from words seg t (u ∷ us) = (t, u) ∷ entries_from words seg (end_at seg t (length (words u))) us

-- the log reached the greatest tail that a writer found
abbrev pub HasReached : ℕ → Log → WriterState → Type 0
HasReached seg log w = w.found ≤ tail unit_words seg log

module _ (words : LogUnit → List ℕ) (seg : ℕ) (log : Log) where
  -- a cursor stands where its newest run stands, or at the start of the next unit
  abbrev pub CursorStands : ℕ → List (HistoryItem LogUnit) → Type 0
  CursorStands p [] = ⊥
  CursorStands p (UnitRun r ∷ is) = RunStands words seg log r.segment r.first (length r.units) p ⊎
      UnitStarts words seg log (r.first + length r.units) p
  CursorStands p (Overrun a b ∷ is) = ⊥

  -- a place was the log's tail once: it is the tail of the log's first units
  abbrev pub WasTail : ℕ → Type 0
  WasTail p = (k : ℕ) × (k ≤ length log) × (p ≡ tail words seg (take k log))

  -- what a reader's observations, the newest first, say of the log, where no counter above c had been announced when the newest was made. An end mark was found at what
  -- was then the tail, and what was found as a segment's start, or as its first unit's number, is that, unless the counter came eight segments ahead
  abbrev pub AreObserved : ℕ → List Observation → Type 0
  AreObserved c [] = Unit {0}
  AreObserved c (CounterSeen x ∷ os) = (x ≤ c) × AreObserved x os
  AreObserved c (FinishedSeen n ∷ os) = AreObserved c os
  AreObserved c (WordSeen p x ∷ os) = (x ≡ end_mark → c < p / seg + 8 → WasTail p) × AreObserved c os
  AreObserved c (StartSeen s p ∷ os) = (c < s + 8 → segment_start words seg log s ≡ Some p) × AreObserved c os
  AreObserved c (NumberSeen s n ∷ os) =
      (c < s + 8 → (s ≤ tail words seg log / seg) × (n ≡ first_number words seg log s)) × AreObserved c os

-- a reader over the whole log: what it took and found is of the log, its cursor stands where its history ends, and where it ended, the log does
pub record IsDone (words : LogUnit → List ℕ) (seg : ℕ) (log : Log) (r : ReaderView) : Type 0 where
  pub history : IsReadHistory words seg log (history_of r)
  pub stands : r.lost ≡ None → CursorStands words seg log r.place r.items
  pub observed : AreObserved words seg log (tail words seg log / seg) r.observed
  pub ended : r.ended ≡ true → ReachesTail log (history_of r)

-- a pass whose reader is so
abbrev pub IsDoneWith : ℕ → Log → ReaderState → Type 0
IsDoneWith seg log r = IsDone unit_words seg log r.reader

-- a run of these items has a unit at the number k
abbrev pub HasTaken : ℕ → LogUnit → List (HistoryItem LogUnit) → Type 0
HasTaken k u [] = ⊥
HasTaken k u (UnitRun r ∷ is) = ((i : ℕ) × (k ≡ r.first + i) × (slice_get r.units i ≡ Some u)) ⊎ HasTaken k u is
HasTaken k u (Overrun a b ∷ is) = HasTaken k u is

-- what two readers took at one number is the same unit
abbrev pub AgreesWith : ReaderState → ReaderState → Type 0
AgreesWith r q = (k : ℕ) (u v : LogUnit) → HasTaken k u r.reader.items → HasTaken k v q.reader.items → u ≡ v
