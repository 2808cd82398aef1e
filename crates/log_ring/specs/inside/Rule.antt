-- The rule of the shared words (this project's choice): what holds between any two steps, whoever steps and in whatever order.
use Rattle.std.specs.Prelude.{◌≡◌, ◌≢◌, ◌⊎◌, ℕ, ◌+◌, ◌*◌, ◌/◌, ◌^◌, ◌<◌, ◌≤◌, true, List, [], ◌∷◌, length, slice_index, sum_by, Some, None}
use Rattle.std.specs.List.{AllByRecursion}
use mathlib.Core.Option.{some}
use lib.ListN.{get_elem?}
use Rattle.atomic_table.specs.Table.{State}
use Rattle.log_model.specs.Interleaving.{given_to}
use Rattle.vsl_record.specs.Unit.{LogUnit, Log}
use Rattle.vsl_record.specs.Words.{IsUnit}
use Rattle.ring_layout.specs.declared.history.HistoryItem.{HistoryItem}
use Rattle.ring_layout.specs.declared.history.HistoryItem.TheVariants.{UnitRun, Overrun}
use Rattle.ring_layout.specs.Places.{IsSegment, seek_distance, last_tail, end_mark, end_at, tail, segment_start, AreFit}
use Rattle.ring_layout.specs.Content.{HoldsLog, HoldsNumbers, HasStored}
use Rattle.ring_layout.specs.inside.Numbers.{HasNumbered}
use Rattle.ring_layout.specs.Copied.{IsDueAt, AreCopied}
use Rattle.ring_layout.specs.History.{last_seen, first_number, IsReadBack}
use Rattle.log_ring.specs.declared.rule.RingKey.{RingKey}
use Rattle.log_ring.specs.declared.rule.WriterView.{WriterView}
use Rattle.log_ring.specs.declared.rule.Progress.{Progress}
use Rattle.log_ring.specs.declared.rule.Progress.TheVariants.{Free, Storing, Stored}
use Rattle.log_ring.specs.declared.rule.Unchecked.{Unchecked}
use Rattle.log_ring.specs.declared.rule.Unchecked.TheVariants.{Nothing, Words, Start, Numbered}
use Rattle.log_ring.specs.declared.rule.ReaderView.{ReaderView}
use Rattle.log_ring.specs.declared.rule.View.{View}
use Rattle.log_ring.specs.Ring.{most_writers}
use Rattle.log_ring.specs.Closed.{entries_from, CursorStands, AreObserved}

-- the word of the write token: the tail and one more, or 0 while a writer puts a unit. Readers load none of the seven behind it, so that writers have a cache line alone
abbrev pub token_word : ℕ
token_word = 0

-- the word of the number of units of the log. Readers don't load it
abbrev pub count_word : ℕ
count_word = 1

-- the word of the counter: the segment up to which a writer may be writing
abbrev pub counter_word : ℕ
counter_word = 8

-- the first of the eight words that keep the starts of segments
abbrev pub first_start : ℕ
first_start = 9

-- the word that counts the writers that left
abbrev pub finished_word : ℕ
finished_word = 17

-- the first of the eight words that keep the numbers of segments' first units
abbrev pub first_number_word : ℕ
first_number_word = 18

-- the first of the ring's words
abbrev pub first_ring_word : ℕ
first_ring_word = 32

-- what no word of the ring says
pub record SharedState : Type 0 where
  pub log : Log
  pub owners : List ℕ  -- the number of the writer of each unit
  pub seat : ℕ → ℕ  -- the seat where each writer is, by its number
  pub holder : ℕ  -- the seat that has the write token, where one has it
  pub progress : Progress  -- how far its put has come
  pub counter : ℕ
  pub finished : ℕ

-- ---- words that the rule's points use

-- a seat knows whether it has the write token: it has it where its own progress is that of the put in progress, and no other seat has it
abbrev pub KnowsToken : Progress → ℕ → ℕ → Progress → Type 0
KnowsToken held holder id Free = held ≢ Free → id ≢ holder
KnowsToken held holder id progress = (progress ≡ held) × (id ≡ holder)

-- none of these writers has the number k
abbrev pub IsWithout : ℕ → List WriterView → Type 0
IsWithout k [] = Unit {0}
IsWithout k (x ∷ xs) = (x.number ≢ k) × IsWithout k xs

-- no two of these writers have one number
abbrev pub AreApart : List WriterView → Type 0
AreApart [] = Unit {0}
AreApart (x ∷ xs) = IsWithout x.number xs × AreApart xs

-- one of these writers has the number k
abbrev pub HasNumber : ℕ → List WriterView → Type 0
HasNumber k [] = ⊥
HasNumber k (x ∷ xs) = (x.number ≡ k) ⊎ HasNumber k xs

-- the writer with the number k is in its seat
pub record IsSeated (seat : ℕ → ℕ) (views : List View) (k : ℕ) : Type 0 where
  pub view : View
  pub there : get_elem? views (seat k) ≡ some view
  pub has : HasNumber k view.writers

-- the next unit that is due to a reader has the number k
abbrev pub IsNext : ℕ → List (HistoryItem LogUnit) → Type 0
IsNext k [] = ⊥
IsNext k (UnitRun r ∷ is) = k ≡ r.first + length r.units
IsNext k (Overrun a b ∷ is) = ⊥

-- the newest item is an overrun in this segment
abbrev pub IsOverrunAt : ℕ → List (HistoryItem LogUnit) → Type 0
IsOverrunAt at [] = ⊥
IsOverrunAt at (UnitRun r ∷ is) = ⊥
IsOverrunAt at (Overrun a b ∷ is) = a ≡ at

-- for how many writers a seat stands
abbrev pub writers_of : View → ℕ
writers_of v = length v.writers

-- how many of them left
abbrev pub finished_of : View → ℕ
finished_of v = v.finished

module _ (words : LogUnit → List ℕ) where
  -- ---- 1. what the writers put is the log: each unit of the log is one writer's, and each writer put its units at the tails of the units before them

  -- what each of these writers, which are in the seat id, put: its units of the log, each beside its tail
  abbrev pub PutAll : ℕ → Log → List ℕ → (ℕ → ℕ) → ℕ → List WriterView → Type 0
  PutAll seg log owners seat id [] = Unit {0}
  PutAll seg log owners seat id (x ∷ xs) =
      ((seat x.number ≡ id) × (x.entries ≡ given_to x.number owners (entries_from words seg 0 log))) ×
      PutAll seg log owners seat id xs

  -- ---- 2. the write token is the tail and one more while no writer has it, and 0 while one has it, who knows how far its put has come; no other put is in progress

  -- what the write token's word is. Writers that reserved room at once could leave a hole where one is stopped, for
  -- which readers would have to wait; so one writer alone stores, and a unit is in the log at one store
  abbrev pub IsToken : ℕ → Log → Progress → ℕ → Type 0
  IsToken seg log Free x = x ≡ tail words seg log + 1
  IsToken seg log progress x = x ≡ 0

  -- the number of units of the log, and one more once the put in progress has counted its unit
  abbrev pub IsCount : Log → Progress → ℕ → Type 0
  IsCount log Free x = x ≡ length log
  IsCount log (Storing p) x = x ≡ length log + p.counted
  IsCount log (Stored p) x = x ≡ length log

  -- ---- 3 to 5. the counter is the tail's segment, or the coming tail's once that is announced; the starts of segments and the words of the ring that lie less than eight
  -- segments behind it are the log's (`HoldsLog`), and what the put in progress stored is the coming log's (`HasStored`)

  -- how far the put in progress has come, against the counter, which is at most two segments ahead of the tail
  abbrev pub IsUnderWay : ℕ → Log → ℕ → Progress → (ℕ → ℕ) → (ℕ → ℕ) → Type 0
  IsUnderWay seg log c Free ent word = c ≡ tail words seg log / seg
  IsUnderWay seg log c (Storing p) ent word =
      (p.tail ≡ tail words seg log) × (p.counter ≡ c) ×
      ((c ≡ p.tail / seg) ⊎ ((c ≡ end_at seg p.tail (length (words p.unit)) / seg) × (c ≤ p.tail / seg + 2)))
      × (p.start ≤ c + 1) × HasStored words seg log p.unit p.start p.word p.mark ent word
  IsUnderWay seg log c (Stored p) ent word = (tail words seg log ≡ end_at seg p.tail (length (words p.unit))) ×
      (c ≡ tail words seg log / seg)

  -- what the put in progress loaded of the number of units, and the numbers of segments that it stored
  abbrev pub IsNumbering : ℕ → Log → Progress → (ℕ → ℕ) → Type 0
  IsNumbering seg log Free num = Unit {0}
  IsNumbering seg log (Storing p) num = ((n : ℕ) → p.units ≡ Some n → n ≡ length log) ×
      HasNumbered words seg log p.unit p.numbered num
  IsNumbering seg log (Stored p) num = Unit {0}

  -- ---- 6. the writers that left are counted, and none of them puts a unit (`IsSeat.idle`, `HoldsOneLog.finished`)

  -- ---- 7. what a reader loaded is the log's, unless the counter has passed its place

  -- what was loaded and isn't checked yet says, as long as the counter c hasn't passed its place: words that were copied are the log's, and where all writers had left an
  -- end mark is the log's end; a segment's start is the log's, and is four behind a counter that was loaded. A reader
  -- less than six segments behind has room for a put and more, and one that was overrun goes on four behind, so that it
  -- isn't overrun again at once
  abbrev pub IsUnchecked : RingKey → Log → ℕ → ReaderView → Unchecked → Type 0
  IsUnchecked key log c r Nothing = Unit {0}
  IsUnchecked key log c r (Words xs) = c < r.place / key.seg + 8
      → AreCopied words key.seg log r.place r.number xs ×
      (key.writers ≤ r.finished_seen → xs ≡ end_mark ∷ [] → r.number ≡ length log)
  IsUnchecked key log c r (Start s x) = (r.loaded ≤ s + seek_distance)
      × (c < s + 8 → (s ≤ tail words key.seg log / key.seg) × (segment_start words key.seg log s ≡ Some x))
  IsUnchecked key log c r (Numbered s x n) = (r.loaded ≤ s + seek_distance)
      × (c < s + 8 → (s ≤ tail words key.seg log / key.seg) × (segment_start words key.seg log s ≡ Some x) ×
      (n ≡ first_number words key.seg log s))

  -- ---- 8. what a reader took is a history of the log, and its cursor stands where the history ends

  -- a reader that was not overrun
  pub record IsReading (seg : ℕ) (log : Log) (r : ReaderView) : Type 0 where
    pub next : IsNext r.number r.items
    pub stands : CursorStands words seg log r.place r.items
    pub due : IsDueAt words seg log r.number r.place

  -- a reader, over the log, the counter c and the number of writers that left. None of it is about the put in progress, so that a step of a writer that leaves these three
  -- leaves it
  pub record IsReader (key : RingKey) (log : Log) (c finished : ℕ) (r : ReaderView) : Type 0 where
    pub history : IsReadBack words key.seg c log r.items  -- 8, with the counter in the place of the tail's segment
    pub reading : r.lost ≡ None → IsReading key.seg log r
    pub overrun : (at : ℕ) → r.lost ≡ Some at → IsOverrunAt at r.items
    pub unchecked : IsUnchecked key log c r r.unchecked  -- 7
    pub seen : last_seen r.items ≤ r.loaded
    pub loaded : r.loaded ≤ c  -- 7
    pub observed : AreObserved words key.seg log c r.observed  -- 7, of all that was loaded before
    pub finished_seen : r.finished_seen ≤ finished  -- 7
    pub ended : r.ended ≡ true → (key.writers ≤ finished) × IsNext (length log) r.items

  -- ---- the rule

  -- what the words of the table are
  pub record AreWords (seg : ℕ) (w : SharedState) (ws : List ℕ) : Type 0 where
    pub wide : length ws ≡ first_ring_word + 8 * seg
    pub token : IsToken seg w.log w.progress (slice_index ws token_word)  -- 2
    pub counter : slice_index ws counter_word ≡ w.counter  -- 3
    pub finished : slice_index ws finished_word ≡ w.finished  -- 6
    pub holds : HoldsLog words seg w.log w.counter (λ i. slice_index ws (first_start + i))
        (λ i. slice_index ws (first_ring_word + i))  -- 4, 5
    pub under_way : IsUnderWay seg w.log w.counter w.progress (λ i. slice_index ws (first_start + i))
        (λ i. slice_index ws (first_ring_word + i))  -- 3 to 5
    pub count : IsCount w.log w.progress (slice_index ws count_word)  -- 2
    pub numbers : HoldsNumbers words seg w.log w.counter (λ i. slice_index ws (first_number_word + i))  -- 4
    pub numbering : IsNumbering seg w.log w.progress (λ i. slice_index ws (first_number_word + i))  -- 2, 4
    pub narrow : (i : ℕ) → slice_index ws (first_ring_word + i) < 2 ^ 32
    pub fit : AreFit words seg w.log
    pub units : AllByRecursion IsUnit w.log
    pub low : tail words seg w.log ≤ last_tail

  -- what a seat says is so
  pub record IsSeat (key : RingKey) (w : SharedState) (id : ℕ) (v : View) : Type 0 where
    pub ring : 0 < length v.writers + length v.readers → v.ring ≡ key
    pub put : PutAll key.seg w.log w.owners w.seat id v.writers  -- 1
    pub apart : AreApart v.writers  -- 1
    pub token : KnowsToken w.progress w.holder id v.progress  -- 2
    pub found : v.found ≤ tail words key.seg w.log  -- 2
    pub finished : v.finished ≤ length v.writers  -- 6
    pub idle : v.finished ≡ length v.writers → v.progress ≡ Free  -- 6
    pub readers : AllByRecursion (IsReader key w.log w.counter w.finished) v.readers  -- 7, 8

  -- the words hold one log, of which each seat says what is so, between any two steps
  pub record HoldsOneLog (key : RingKey) (s : State ℕ View) : Type 0 where
    pub segment : IsSegment key.seg
    pub few : key.writers ≤ most_writers
    pub shared : SharedState
    pub are_words : AreWords key.seg shared s.words
    pub one_each : length shared.owners ≡ length shared.log  -- 1
    pub seats : (id : ℕ) (v : View) → get_elem? s.views id ≡ some v → IsSeat key shared id v
    pub holder : shared.progress ≢ Free → shared.holder < length s.views  -- 2
    pub owners : AllByRecursion (IsSeated shared.seat s.views) shared.owners  -- 1
    pub writers : sum_by writers_of s.views ≡ key.writers  -- 1
    pub finished : sum_by finished_of s.views ≡ shared.finished  -- 6
