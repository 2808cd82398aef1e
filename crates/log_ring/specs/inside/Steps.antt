-- What holds between the steps of a put (this project's choice).
use Rattle.std.specs.Prelude.{◌≡◌, ◌≢◌, ℕ, ◌+◌, ◌-◌, ◌*◌, ◌/◌, ◌%◌, ◌<◌, ◌≤◌, ◌==◌, if◌then◌else◌, not, List, [], ◌∷◌, ◌++◌, length, take, map, sum_by, slice_index, Option, Some, None}
use Rattle.std.specs.List.{AllByRecursion}
use Rattle.atomic_table.specs.Seated.{TableId}
use Rattle.atomic_table.specs.Table.{Me}
use Rattle.vsl_record.specs.Unit.{LogUnit}
use Rattle.vsl_record.specs.Words.{unit_words}
use Rattle.ring_layout.specs.Places.{last_tail, stays, start_at, end_at, end_mark}
use Rattle.ring_layout.specs.declared.shape.Placed.{Placed}
use Rattle.ring_layout.specs.declared.steps.Step.{Step}
use Rattle.ring_layout.specs.declared.steps.Step.TheVariants.{Took, NotYet, Ended, Lost}
use Rattle.log_ring.specs.declared.rule.RingKey.{RingKey}
use Rattle.log_ring.specs.declared.rule.WriterView.{WriterView}
use Rattle.log_ring.specs.declared.rule.Put.{Put}
use Rattle.log_ring.specs.declared.rule.Progress.{Progress}
use Rattle.log_ring.specs.declared.rule.Progress.TheVariants.{Free}
use Rattle.log_ring.specs.declared.rule.ReaderView.{ReaderView}
use Rattle.log_ring.specs.declared.rule.Unchecked.TheVariants.{Words}
use Rattle.log_ring.specs.declared.rule.Observation.TheVariants.{CounterSeen, FinishedSeen, WordSeen}
use Rattle.log_ring.specs.declared.rule.View.{View}
use Rattle.log_ring.specs.Ring.{RingSet}
use Rattle.log_ring.specs.Writers.{WriterState, busy_of, AreWritersOf}
use Rattle.log_ring.specs.Readers.{ReaderState, AreReadersOf}
use Rattle.log_ring.specs.inside.Rule.{token_word, first_ring_word}
use Rattle.log_ring.specs.inside.Writing.{begun, first_entries, new_writer_views, new_reader_views}
use Rattle.log_ring.specs.inside.Reading.{reader_of}

-- the ring of a table with a key
abbrev pub set_of : TableId → RingKey → RingSet
set_of table key = record { table = table; seg = key.seg; writers = key.writers; readers = key.readers }

-- the number of the first of these writers
abbrev pub first_number : List WriterView → ℕ
first_number [] = 0
first_number (x ∷ xs) = x.number

-- the seat of one writer that is there, and puts nothing now
pub record IsWriterSeat (me : Me ℕ View) : Type 0 where
  pub idle : me.1 ≡ []
  pub progress : me.0.progress ≡ Free
  pub finished : me.0.finished ≡ 0
  pub writer : WriterView
  pub one : me.0.writers ≡ writer ∷ []
  pub no_reader : me.0.readers ≡ []

-- the seat of one writer that left
pub record IsLeftSeat (me : Me ℕ View) : Type 0 where
  pub idle : me.1 ≡ []
  pub progress : me.0.progress ≡ Free
  pub finished : me.0.finished ≡ 1
  pub writer : WriterView
  pub one : me.0.writers ≡ writer ∷ []
  pub no_reader : me.0.readers ≡ []

-- a unit of w words is put here from a tail on, and has a place
pub record IsPlaced (seg t w : ℕ) (placed : Placed) : Type 0 where
  pub start : placed.start ≡ start_at seg t w
  pub tail : placed.tail ≡ end_at seg t w
  pub wraps : placed.wraps ≡ not (stays seg t w)
  pub low : end_at seg t w ≤ last_tail

-- a unit that fits a segment is put here from a tail on, in this ring
abbrev pub IsPutAt : RingSet → TableId → ℕ → LogUnit → Placed → Type 0
IsPutAt ring table t u placed = (table ≡ ring.table) × IsPlaced ring.seg t (length (unit_words u)) placed ×
    (length (unit_words u) ≤ ring.seg)

-- a view with another progress
abbrev pub with_progress : Progress → View → View
with_progress progress v = record v { progress = progress }

-- the put of a unit at a tail, once it is known that n units stand before it
abbrev pub known : ℕ → ℕ → ℕ → LogUnit → Put
known seg t n u = record (begun unit_words seg t u) { units = Some n }

-- once the new tail's segment is announced
abbrev pub announced : ℕ → ℕ → ℕ → LogUnit → Put
announced seg t n u = record (known seg t n u) { counter = end_at seg t (length (unit_words u)) / seg }

-- once the starts of the segments below this one are stored, and the numbers of their first units
abbrev pub starting : ℕ → ℕ → ℕ → LogUnit → ℕ → Put
starting seg t n u s = record (announced seg t n u) { start = s; numbered = s }

-- once those of all segments are stored
abbrev pub started : ℕ → ℕ → ℕ → LogUnit → Put
started seg t n u = starting seg t n u (end_at seg t (length (unit_words u)) / seg + 1)

-- once the words of the unit are stored, but for the one at the tail
abbrev pub written : ℕ → ℕ → ℕ → LogUnit → Put
written seg t n u = record (started seg t n u) { word = length (unit_words u) }

-- once the end mark is stored
abbrev pub marked : ℕ → ℕ → ℕ → LogUnit → Put
marked seg t n u = record (written seg t n u) { mark = 1 }

-- once the unit is counted
abbrev pub counted : ℕ → ℕ → ℕ → LogUnit → Put
counted seg t n u = record (marked seg t n u) { counted = 1 }

-- the first of a unit's start and end that lies in a segment that it enters
abbrev pub first_of : ℕ → ℕ → ℕ → ℕ → ℕ
first_of s seg start end = if start / seg == s then start else end

-- the first writer of a seat
abbrev pub first_writer_of : View → WriterView
first_writer_of v = record { number = first_number v.writers; entries = first_entries v.writers }

-- a view whose writer put one unit more, and doesn't have the write token
abbrev pub with_put : ℕ → LogUnit → View → View
with_put t u v = record v {
  writers =
      record { number = first_number v.writers; entries = first_entries v.writers ++ (t, u) ∷ [] } ∷ [];
  progress = Free;
}

-- what contracts see of the seat of one writer
abbrev pub writer_of : TableId → View → WriterState
writer_of table v = record {
  ring = set_of table v.ring;
  number = first_number v.writers;
  entries = first_entries v.writers;
  found = v.found;
  busy = v.busy;
}

-- the words of a table whose ring has no unit: zeros, but for the write token and the end mark
pub record AreFirstWords (seg : ℕ) (words : List ℕ) : Type 0 where
  pub wide : length words ≡ first_ring_word + 8 * seg
  pub token : slice_index words token_word ≡ 1
  pub mark : slice_index words first_ring_word ≡ end_mark
  pub zeros : (i : ℕ) → i ≢ token_word → i ≢ first_ring_word → slice_index words i ≡ 0

-- the first seat of a ring, while it stands for the last k writers and for m readers
pub record IsFirstSeat (ring : RingSet) (k m : ℕ) (table : TableId) (me : Me ℕ View) : Type 0 where
  pub ours : table ≡ ring.table
  pub idle : me.1 ≡ []
  pub ring_is : set_of ring.table me.0.ring ≡ ring
  pub progress : me.0.progress ≡ Free
  pub finished : me.0.finished ≡ 0
  pub writers : me.0.writers ≡ new_writer_views (ring.writers - k) k
  pub readers : me.0.readers ≡ new_reader_views m
  pub found : me.0.found ≡ 0
  pub busy : me.0.busy ≡ 0
  pub upto : k ≤ ring.writers

-- the seat of one reader
pub record IsReaderSeat (me : Me ℕ View) : Type 0 where
  pub idle : me.1 ≡ []
  pub no_writer : me.0.writers ≡ []
  pub progress : me.0.progress ≡ Free
  pub busy : me.0.busy ≡ 0
  pub one : me.0.readers ≡ reader_of me.0 ∷ []

-- a seat of this ring that stands for one reader
abbrev pub IsReaderOf : RingSet → TableId → Me ℕ View → Type 0
IsReaderOf ring table me = (table ≡ ring.table) × (me.0.readers ≡ reader_of me.0 ∷ [])

-- and for one that was not overrun
abbrev pub IsReadingOf : RingSet → TableId → Me ℕ View → Type 0
IsReadingOf ring table me = (table ≡ ring.table) × (me.0.readers ≡ reader_of me.0 ∷ []) × ((reader_of me.0).lost ≡ None)

-- what contracts see of the seat of one reader, and of the words that it copied last, which are those of the unit of this number
abbrev pub reader_seen : TableId → View → List ℕ → ℕ → ReaderState
reader_seen table v words taken =
    record { ring = set_of table v.ring; reader = reader_of v; words = words; taken = taken }

-- the writer of a pass
abbrev pub writer_in : WriterState → WriterView
writer_in w = record { number = w.number; entries = w.entries }

-- the reader of a pass
abbrev pub reader_in : ReaderState → ReaderView
reader_in r = r.reader

-- a seat stands for the writers that are not in the rest, and for these readers
pub record IsJoined (ring : RingSet) (whole rest : List WriterState) (readers : List ReaderView) (table : TableId) (me : Me ℕ View) : Type 0 where
  pub ours : table ≡ ring.table
  pub idle : me.1 ≡ []
  pub progress : me.0.progress ≡ Free
  pub taken : List WriterState
  pub parts : rest ++ taken ≡ whole
  pub some : 0 < length taken
  pub seg : me.0.ring.seg ≡ ring.seg
  pub writers : me.0.writers ≡ map writer_in taken
  pub busy : me.0.busy ≡ sum_by busy_of taken
  pub found : AllByRecursion (λ (w : WriterState). w.found ≤ me.0.found) taken
  pub readers_are : me.0.readers ≡ readers
  pub are_of : AreWritersOf ring rest

-- the one reader of a seat copied so many words, which begin a buffer's, and the first of which is this
pub record HasCopied (head count : ℕ) (buffer : List ℕ) (old new : Me ℕ View) : Type 0 where
  pub seat : new ≡ (record old.0 { readers = reader_of new.0 ∷ [] }, old.1)
  pub reader : reader_of new.0 ≡ record (reader_of old.0) { unchecked = Words (take count buffer) }
  pub first : slice_index buffer 0 ≡ head
  pub long : count ≤ length buffer

-- a seat stands for all writers, and for the readers that are not in the rest
pub record IsJoinedWith (ring : RingSet) (writers : List WriterState) (readers rest : List ReaderState) (table : TableId) (me : Me ℕ View) : Type 0 where
  pub taken : List ReaderState
  pub parts : rest ++ taken ≡ readers
  pub joined : IsJoined ring writers [] (map reader_in taken) table me
  pub are_of : AreReadersOf ring rest

-- the word that a call found at its place: the end mark, where it answers that nothing is there, and stands there; or one of a unit, behind which it stands
abbrev pub FoundWord : ℕ → ℕ → ReaderState → Option Step → Type 0
FoundWord p x new (Some (NotYet q)) = (q ≡ p) × (x ≡ end_mark)
FoundWord p x new (Some Ended) = (new.reader.place ≡ p) × (x ≡ end_mark)
FoundWord p x new (Some Took) = new.reader.place ≡ p + length new.words
FoundWord p x new (Some (Lost at seen)) = Unit {0}
FoundWord p x new None = Unit {0}

-- a check: the counter is what was found more
abbrev pub HasChecked : ReaderState → ReaderState → Type 0
HasChecked old new = (new.reader.observed ≡ CounterSeen new.reader.loaded ∷ old.reader.observed) ×
    (new.reader.finished_seen ≡ old.reader.finished_seen)

-- a try: the number of writers that left, the word at the place, and then the counter are what was found more
abbrev pub HasTried : Option Step → ReaderState → ReaderState → Type 0
HasTried step old new =
    (x : ℕ) × (new.reader.observed ≡ CounterSeen new.reader.loaded ∷ WordSeen old.reader.place x ∷
    FinishedSeen new.reader.finished_seen ∷ old.reader.observed) × FoundWord old.reader.place x new step

-- a cursor went on at the next lap: a unit at its place could wrap
pub record HasMoved (old new : ReaderState) : Type 0 where
  pub reading : new.reader.lost ≡ None
  pub items : new.reader.items ≡ old.reader.items
  pub wraps : 8 * old.ring.seg ≤ old.reader.place % (8 * old.ring.seg) + old.ring.seg
  pub lap : new.reader.place ≡ (old.reader.place / (8 * old.ring.seg) + 1) * (8 * old.ring.seg)
