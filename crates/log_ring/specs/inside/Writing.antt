-- What a seat says after each step of a writer, when a pass is made, and when passes are joined (this project's choice).
use Rattle.std.specs.Prelude.{◌≡◌, ℕ, ◌+◌, ◌-◌, ◌/◌, ◌<◌, ◌≤◌, ◌==◌, max, if◌then◌else◌, List, [], ◌∷◌, ◌++◌, length, Some, None}
use Rattle.atomic_table.specs.Table.{Me, Step}
use Rattle.vsl_record.specs.Unit.{LogUnit}
use Rattle.ring_layout.specs.Places.{last_tail}
use Rattle.ring_layout.specs.Content.{first_word}
use Rattle.log_ring.specs.declared.rule.RingKey.{RingKey}
use Rattle.log_ring.specs.declared.rule.WriterView.{WriterView}
use Rattle.log_ring.specs.declared.rule.Put.{Put}
use Rattle.log_ring.specs.declared.rule.Progress.{Progress}
use Rattle.log_ring.specs.declared.rule.Progress.TheVariants.{Free, Storing, Stored}
use Rattle.log_ring.specs.declared.rule.ReaderView.{ReaderView}
use Rattle.log_ring.specs.declared.rule.View.{View}
use Rattle.log_ring.specs.Readers.{new_reader}

-- the units that the first of these writers put, each beside its tail
abbrev pub first_entries : List WriterView → List (ℕ × LogUnit)
first_entries [] = []
first_entries (x ∷ xs) = x.entries

module _ (words : LogUnit → List ℕ) where
  -- a put of the unit u by a writer that found the tail t
  abbrev pub begun : ℕ → ℕ → LogUnit → Put
  begun seg t u = record {
    tail = t;
    unit = u;
    units = None;
    counter = t / seg;
    start = t / seg + 1;
    numbered = t / seg + 1;
    word = first_word words seg t (length (words u));
    mark = 0;
    counted = 0;
  }

  -- what a seat says when it swapped the write token, with the unit u to be put
  abbrev pub after_acquire : LogUnit → ℕ → View → View
  after_acquire u token v =
      if token == 0 then record v { busy = v.busy + 1 }
      else record v { progress = Storing (begun v.ring.seg (token - 1) u); found = max v.found (token - 1) }

-- so many writers that put nothing, numbered from k on
abbrev pub new_writer_views : ℕ → ℕ → List WriterView
new_writer_views k Rattle.std.specs.Prelude.zero = []
new_writer_views k (Rattle.std.specs.Prelude.suc n) = record { number = k; entries = [] } ∷ new_writer_views (k + 1) n

-- so many of them
abbrev pub new_reader_views : ℕ → List ReaderView
new_reader_views Rattle.std.specs.Prelude.zero = []
new_reader_views (Rattle.std.specs.Prelude.suc n) = new_reader ∷ new_reader_views n

-- what the first seat says: it stands for all writers and readers
abbrev pub first_view : RingKey → View
first_view key = record {
  ring = key;
  writers = new_writer_views 0 key.writers;
  finished = 0;
  progress = Free;
  found = 0;
  busy = 0;
  readers = new_reader_views key.readers;
  log = [];
}

-- how far a put has come, once it went on
abbrev pub going_on : (Put → Put) → Progress → Progress
going_on f Free = Free
going_on f (Storing p) = Storing (f p)
going_on f (Stored p) = Stored p

-- how far a put has come, once its unit is in the log
abbrev pub with_stored : Progress → Progress
with_stored Free = Free
with_stored (Storing p) = Stored p
with_stored (Stored p) = Stored p

-- writers of which the first put one unit more
abbrev pub with_entry : Progress → List WriterView → List WriterView
with_entry (Storing p) (x ∷ xs) = record x { entries = x.entries ++ (p.tail, p.unit) ∷ [] } ∷ xs
with_entry progress xs = xs

-- what a seat says after it loaded the number of units of the log
abbrev pub after_count : ℕ → View → View
after_count n v = record v { progress = going_on (λ p. record p { units = Some n }) v.progress }

-- what a seat says after it stored the counter
abbrev pub after_announce : ℕ → View → View
after_announce c v = record v { progress = going_on (λ p. record p { counter = c }) v.progress }

-- after it stored the start of a segment
abbrev pub after_start : View → View
after_start v = record v { progress = going_on (λ p. record p { start = p.start + 1 }) v.progress }

-- after it stored the number of its first unit
abbrev pub after_number : View → View
after_number v = record v { progress = going_on (λ p. record p { numbered = p.numbered + 1 }) v.progress }

-- after it stored a word of the unit
abbrev pub after_word : View → View
after_word v = record v { progress = going_on (λ p. record p { word = p.word + 1 }) v.progress }

-- after it stored the end mark
abbrev pub after_mark : View → View
after_mark v = record v { progress = going_on (λ p. record p { mark = 1 }) v.progress }

-- after it counted the unit
abbrev pub after_counting : View → View
after_counting v = record v { progress = going_on (λ p. record p { counted = 1 }) v.progress }

-- after it stored the word at the old tail: the unit is put. It was the end mark, so a reader takes the unit when this
-- word has changed, and not before
abbrev pub after_publish : View → View
after_publish v = record v { writers = with_entry v.progress v.writers; progress = with_stored v.progress }

-- after it released the write token
abbrev pub after_release : View → View
after_release v = record v { progress = Free }

-- after its writer left
abbrev pub after_leave : View → View
after_leave v = record v { finished = v.finished + 1 }

-- the writers but the first
abbrev pub later_writers : List WriterView → List WriterView
later_writers [] = []
later_writers (x ∷ xs) = xs

-- the first writer
abbrev pub first_writer : List WriterView → List WriterView
first_writer [] = []
first_writer (x ∷ xs) = x ∷ []

-- what a seat says after it gave its first writer to a new seat
abbrev pub without_writer : View → View
without_writer v = record v { writers = later_writers v.writers }

-- what the new seat says
abbrev pub one_writer : View → View
one_writer v = record {
  ring = v.ring;
  writers = first_writer v.writers;
  finished = 0;
  progress = Free;
  found = 0;
  busy = 0;
  readers = [];
  log = [];
}

-- the readers but the first
abbrev pub later_readers : List ReaderView → List ReaderView
later_readers [] = []
later_readers (q ∷ qs) = qs

-- the first reader
abbrev pub first_reader : List ReaderView → List ReaderView
first_reader [] = []
first_reader (q ∷ qs) = q ∷ []

-- what a seat says after it gave its first reader to a new seat
abbrev pub without_reader : View → View
without_reader v = record v { readers = later_readers v.readers }

-- what the new seat says
abbrev pub one_reader : View → View
one_reader v = record {
  ring = v.ring;
  writers = [];
  finished = 0;
  progress = Free;
  found = 0;
  busy = 0;
  readers = first_reader v.readers;
  log = [];
}

-- what a seat says after it took in the writers and the readers of another
abbrev pub both_views : View → View → View
both_views v w = record v {
  writers = v.writers ++ w.writers;
  finished = v.finished + w.finished;
  found = max v.found w.found;
  busy = v.busy + w.busy;
  readers = v.readers ++ w.readers;
}

-- what that other is left with
abbrev pub no_view : View
no_view = record {
  ring = record { seg = 0; writers = 0; readers = 0 };
  writers = [];
  finished = 0;
  progress = Free;
  found = 0;
  busy = 0;
  readers = [];
  log = [];
}

-- a step makes this of what the seat says, by the number found
abbrev pub Makes : (ℕ → View → View) → Step ℕ → Me ℕ View → ℕ → Me ℕ View → Type 0
Makes f st me found after = after ≡ (f found me.0, me.1)

-- a load of the number of units of the log, which is at most the last tail
abbrev pub LoadsCount : Step ℕ → Me ℕ View → ℕ → Me ℕ View → Type 0
LoadsCount st me found after = (after ≡ (after_count found me.0, me.1)) × (found ≤ last_tail)

module _ (words : LogUnit → List ℕ) where
  -- a swap of the write token: where it was free, the tail found is no smaller than the number of units that the writer put, and is at most the last; where it was taken,
  -- there is another writer
  abbrev pub Acquires : LogUnit → Step ℕ → Me ℕ View → ℕ → Me ℕ View → Type 0
  Acquires u st me found after = (after ≡ (after_acquire words u found me.0, me.1)) ×
      (0 < found → (length (first_entries me.0.writers) < found) × (found ≤ last_tail + 1)) ×
      (found ≡ 0 → 1 < me.0.ring.writers)
