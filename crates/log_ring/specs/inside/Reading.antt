-- What a reader says after each of its loads (this project's choice).
use Rattle.std.specs.Prelude.{◌≡◌, ◌⊎◌, ℕ, ◌+◌, ◌-◌, ◌*◌, ◌/◌, ◌%◌, ◌^◌, ◌<◌, ◌≤◌, nat_le, false, List, [], ◌∷◌, ◌++◌, length, slice_index_or, Some, None}
use Rattle.atomic_table.specs.Table.{Me, Step}
use Rattle.vsl_record.specs.Unit.{LogUnit}
use Rattle.vsl_record.specs.Words.{IsUnit}
use Rattle.ring_layout.specs.declared.history.HistoryItem.TheVariants.{UnitRun, Overrun}
use Rattle.ring_layout.specs.Places.{overrun_distance, seek_distance, last_tail}
use Rattle.ring_layout.specs.History.{HasRun, next_number, with_unit}
use Rattle.log_ring.specs.declared.rule.RingKey.{RingKey}
use Rattle.log_ring.specs.declared.rule.Unchecked.{Unchecked}
use Rattle.log_ring.specs.declared.rule.Unchecked.TheVariants.{Nothing, Words, Start, Numbered}
use Rattle.log_ring.specs.declared.rule.Observation.{Observation}
use Rattle.log_ring.specs.declared.rule.Observation.TheVariants.{CounterSeen, FinishedSeen, WordSeen, StartSeen, NumberSeen}
use Rattle.log_ring.specs.declared.rule.ReaderView.{ReaderView}
use Rattle.log_ring.specs.declared.rule.View.{View}
use Rattle.log_ring.specs.Readers.{new_reader}
use Rattle.log_ring.specs.inside.Rule.{counter_word, first_start, finished_word, first_number_word, first_ring_word}

-- a reader that loaded the number of writers that left
abbrev pub with_finished : ℕ → ReaderView → ReaderView
with_finished n r = record r { finished_seen = n; observed = FinishedSeen n ∷ r.observed; unchecked = Nothing }

-- the words that were loaded and not checked yet
abbrev pub unchecked_words : Unchecked → List ℕ
unchecked_words (Words xs) = xs
unchecked_words unchecked = []

-- a reader that loaded the first word of a stretch
abbrev pub with_head : ℕ → ReaderView → ReaderView
with_head x r = record r { unchecked = Words (x ∷ []); observed = WordSeen r.place x ∷ r.observed }

-- a reader that loaded one word more
abbrev pub with_copy : ℕ → ReaderView → ReaderView
with_copy x r = record r { unchecked = Words (unchecked_words r.unchecked ++ x ∷ []) }

-- a reader that was overrun in a segment, by a counter
abbrev pub overrun_at : ℕ → ℕ → ReaderView → ReaderView
overrun_at at seen r = record r {
  items = Overrun at seen ∷ r.items;
  lost = Some at;
  unchecked = Nothing;
  loaded = seen;
  observed = CounterSeen seen ∷ r.observed;
  ended = false;
}

-- a reader that found the end mark, and nothing else to come
abbrev pub with_end : RingKey → ℕ → ReaderView → ReaderView
with_end key seen r = record r {
  unchecked = Nothing;
  loaded = seen;
  observed = CounterSeen seen ∷ r.observed;
  ended = nat_le key.writers r.finished_seen;
}

-- a reader that found the wrap mark, and goes on at the next lap
abbrev pub with_lap : ℕ → ℕ → ReaderView → ReaderView
with_lap seg seen r = record r {
  place = (r.place / (8 * seg) + 1) * (8 * seg);
  unchecked = Nothing;
  loaded = seen;
  observed = CounterSeen seen ∷ r.observed;
}

-- a reader that took a unit of w words
abbrev pub with_taken : ℕ → LogUnit → ℕ → ReaderView → ReaderView
with_taken w u seen r = record r {
  place = r.place + w;
  number = r.number + 1;
  items = with_unit u r.items;
  unchecked = Nothing;
  loaded = seen;
  observed = CounterSeen seen ∷ r.observed;
  ended = false;
}

-- a reader that looked at the counter before it seeks
abbrev pub with_loaded : ℕ → ReaderView → ReaderView
with_loaded c r = record r { loaded = c; observed = CounterSeen c ∷ r.observed; unchecked = Nothing }

-- a reader that loaded the start of the segment four behind that counter
abbrev pub with_start_of : ℕ → ReaderView → ReaderView
with_start_of x r = record r {
  unchecked = Start (r.loaded - seek_distance) x;
  observed = StartSeen (r.loaded - seek_distance) x ∷ r.observed;
}

-- the start that was loaded and not checked yet
abbrev pub unchecked_start : Unchecked → ℕ
unchecked_start (Start s x) = x
unchecked_start (Numbered s x n) = x
unchecked_start unchecked = 0

-- and the number
abbrev pub unchecked_number : Unchecked → ℕ
unchecked_number (Numbered s x n) = n
unchecked_number unchecked = 0

-- a reader that loaded the number of that segment's first unit too
abbrev pub with_number_of : ℕ → ReaderView → ReaderView
with_number_of n r = record r {
  unchecked = Numbered (r.loaded - seek_distance) (unchecked_start r.unchecked) n;
  observed = NumberSeen (r.loaded - seek_distance) n ∷ r.observed;
}

-- a reader that goes on at a place, where the k-th unit is due, in a segment: it missed the units behind its newest run and before that one
abbrev pub with_run : ℕ → ℕ → ℕ → ℕ → ReaderView → ReaderView
with_run s p k seen r = record r {
  place = p;
  number = k;
  lost = None;
  items = UnitRun (record { segment = s; first = k; missed = k - next_number r.items; units = [] }) ∷ r.items;
  unchecked = Nothing;
  loaded = seen;
  observed = CounterSeen seen ∷ r.observed;
  ended = false;
}

-- the first reader of a seat
abbrev pub reader_of : View → ReaderView
reader_of v = slice_index_or v.readers 0 new_reader

-- the one reader of a seat becomes another, as this says of the ring, a number, the reader before and the one after
abbrev pub Becomes : (RingKey → ℕ → ReaderView → ReaderView → Type 0) → Me ℕ View → ℕ → Me ℕ View → Type 0
Becomes T me x after = (after ≡ (record me.0 { readers = reader_of after.0 ∷ [] }, me.1)) ×
    T me.0.ring x (reader_of me.0) (reader_of after.0)

-- what was found is of this load: of this word of the table, and this number was found there
abbrev pub IsOfLoad : ℕ → ℕ → ℕ → Observation → Type 0
IsOfLoad seg i x (CounterSeen c) = (i ≡ counter_word) × (c ≡ x)
IsOfLoad seg i x (FinishedSeen n) = (i ≡ finished_word) × (n ≡ x)
IsOfLoad seg i x (WordSeen p y) = (i ≡ first_ring_word + p % (8 * seg)) × (y ≡ x)
IsOfLoad seg i x (StartSeen s p) = (i ≡ first_start + s % 8) × (p ≡ x)
IsOfLoad seg i x (NumberSeen s n) = (i ≡ first_number_word + s % 8) × (n ≡ x)

-- a reader found this load more, or nothing that it keeps
abbrev pub Observes : ℕ → ℕ → ℕ → ReaderView → ReaderView → Type 0
Observes seg i x r after = (after.observed ≡ r.observed) ⊎
    ((o : Observation) × IsOfLoad seg i x o × (after.observed ≡ o ∷ r.observed))

-- a load of a seat that stands for one reader; what it says more of its loads is this one
abbrev pub Reads : (RingKey → ℕ → ReaderView → ReaderView → Type 0) → Step ℕ → Me ℕ View → ℕ → Me ℕ View → Type 0
Reads T st me found after = Becomes T me found after ×
    Observes me.0.ring.seg st.word found (reader_of me.0) (reader_of after.0)

-- a load of the number of writers that left
abbrev pub LoadsFinished : RingKey → ℕ → ReaderView → ReaderView → Type 0
LoadsFinished key x r after = after ≡ with_finished x r

-- a load of the first word at the cursor's place
abbrev pub LoadsHead : RingKey → ℕ → ReaderView → ReaderView → Type 0
LoadsHead key x r after = (after ≡ with_head x r) × (x < 2 ^ 32)

-- a load of a further word
abbrev pub LoadsMore : RingKey → ℕ → ReaderView → ReaderView → Type 0
LoadsMore key x r after = (after ≡ with_copy x r) × (x < 2 ^ 32)

-- a check of the counter: the cursor is overrun, or this holds
abbrev pub Checks : (RingKey → ℕ → ReaderView → ReaderView → Type 0) → RingKey → ℕ → ReaderView → ReaderView → Type 0
Checks T key x r after =
    ((r.place / key.seg + overrun_distance ≤ x) × (after ≡ overrun_at (r.place / key.seg) x r))
    ⊎ ((x < r.place / key.seg + overrun_distance) × T key x r after)

-- where it found the end mark: nothing more comes, or nothing yet
abbrev pub FindsEnd : RingKey → ℕ → ReaderView → ReaderView → Type 0
FindsEnd key x r after = after ≡ with_end key x r

-- where it found the wrap mark: it goes on at the next lap
abbrev pub FindsLap : RingKey → ℕ → ReaderView → ReaderView → Type 0
FindsLap key x r after = (after ≡ with_lap key.seg x r) × (after.place ≤ last_tail)

-- where it copied a unit: it takes the unit. Readers copy, and look at the counter after that: before nothing is said
-- of the copy
abbrev pub FindsUnit : (LogUnit → List ℕ) → RingKey → ℕ → ReaderView → ReaderView → Type 0
FindsUnit words key x r after = (u : LogUnit) × IsUnit u × (unchecked_words r.unchecked ≡ words u) × HasRun r.items ×
    (r.number ≡ next_number r.items) × (after ≡ with_taken (length (words u)) u x r) × (after.place ≤ last_tail) ×
    (after.number ≤ last_tail)

-- where it found another word, it is overrun. Since that is proved, there is no answer for a damaged ring
abbrev pub FindsNothing : RingKey → ℕ → ReaderView → ReaderView → Type 0
FindsNothing key x r after = ⊥

-- a check of a cursor that was overrun: it is overrun again
abbrev pub ChecksAgain : RingKey → ℕ → ReaderView → ReaderView → Type 0
ChecksAgain key x r after = (at : ℕ) → r.lost ≡ Some at → (at + overrun_distance ≤ x) × (after ≡ overrun_at at x r)

-- a load of the counter before a cursor seeks
abbrev pub Looks : RingKey → ℕ → ReaderView → ReaderView → Type 0
Looks key x r after = after ≡ with_loaded x r

-- a load of the start of the segment four behind that
abbrev pub LoadsStart : RingKey → ℕ → ReaderView → ReaderView → Type 0
LoadsStart key x r after = after ≡ with_start_of x r

-- a load of the number of that segment's first unit
abbrev pub LoadsNumber : RingKey → ℕ → ReaderView → ReaderView → Type 0
LoadsNumber key x r after = after ≡ with_number_of x r

-- a check of a cursor that seeks: it is overrun, or goes on at the start of the segment, where no unit is due that it took; it took a run before
abbrev pub Seeks : RingKey → ℕ → ReaderView → ReaderView → Type 0
Seeks key x r after =
    (((r.loaded - seek_distance) + overrun_distance ≤ x) × (after ≡ overrun_at (r.loaded - seek_distance) x r))
    ⊎ ((x < (r.loaded - seek_distance) + overrun_distance) × (0 < length r.items) ×
    (next_number r.items ≤ unchecked_number r.unchecked) ×
    (after ≡ with_run (r.loaded - seek_distance) (unchecked_start r.unchecked) (unchecked_number r.unchecked) x r)
    × (after.place ≤ last_tail) × (after.number ≤ last_tail))
