-- The stated schedules: writers put the units of their feeds into a ring, and a reader takes them from it, one turn after another (this project's choice). It is said
-- over the line of places alone. `seg` is the number of words of a segment.
use Rattle.std.specs.Prelude.{◌≡◌, ℕ, zero, suc, ◌+◌, ◌-◌, ◌/◌, ◌%◌, ◌==◌, nat_lt, nat_le, if◌then◌else◌, Bool, true, false, List, [], ◌∷◌, ◌++◌, map, take, reverse, slice_get, unwrap_or, Option, Some, None}
use Rattle.std.specs.Fn.{iterate}
use Rattle.std.specs.Option.{option_map}
use Rattle.vsl_record.specs.Unit.{LogUnit, Log}
use Rattle.vsl_record.specs.Words.{unit_words}
use Rattle.ring_layout.specs.declared.history.HistoryItem.{HistoryItem}
use Rattle.ring_layout.specs.declared.history.HistoryItem.TheVariants.{UnitRun, Overrun}
use Rattle.ring_layout.specs.Places.{tail, segment_start}
use Rattle.ring_layout.specs.History.{first_number, with_unit}
use Rattle.ring_layout.specs.declared.item.Item.{Item}
use Rattle.ring_layout.specs.Items.{items_of}
use Rattle.traffic_feed.specs.Turns.{first_draw, next_draw}

-- what a reader is about
pub data Reading : Type 0 where
  -- it may have a turn
  Reads : Reading
  -- it met the end of the log, and may have a turn again when a writer had one
  Waits : Reading
  -- it met the end of the log when all writers had left
  Ended : Reading

-- what stands between two turns
pub record Stage : Type 0 where
  -- what was put
  pub log : Log
  -- what each writer has still to put; nothing of one that left
  pub writers : List (Option Log)
  -- which unit is due to the reader, from 0, and the place where it stands
  pub number : ℕ
  pub place : ℕ
  pub reading : Reading
  -- what the reader took, the newest first
  pub history : List (HistoryItem LogUnit)
  -- the number that was drawn last, where turns are drawn
  pub drawn : Option ℕ

-- before the first turn
abbrev pub first_stage : Option ℕ → List Log → Stage
first_stage order feeds = record {
  log = [];
  writers = map Some feeds;
  number = 0;
  place = 0;
  reading = Reads;
  history = UnitRun (record { segment = 0; first = 0; missed = 0; units = [] }) ∷ [];
  drawn = option_map first_draw order;
}

-- ---- a writer's turn

-- how many writers have not left
abbrev pub count_writers : List (Option Log) → ℕ
count_writers [] = 0
count_writers (None ∷ writers) = count_writers writers
count_writers (Some units ∷ writers) = 1 + count_writers writers

-- what the k-th of those that have not left puts: its next unit, or nothing where none is left
abbrev pub put_by : ℕ → List (Option Log) → Log
put_by k [] = []
put_by k (None ∷ writers) = put_by k writers
put_by zero (Some [] ∷ writers) = []
put_by zero (Some (u ∷ units) ∷ writers) = u ∷ []
put_by (suc k) (Some units ∷ writers) = put_by k writers

-- what the writers have still to put then: it has a unit less, or leaves
abbrev pub without_next : ℕ → List (Option Log) → List (Option Log)
without_next k [] = []
without_next k (None ∷ writers) = None ∷ without_next k writers
without_next zero (Some [] ∷ writers) = None ∷ writers
without_next zero (Some (u ∷ units) ∷ writers) = Some units ∷ writers
without_next (suc k) (Some units ∷ writers) = Some units ∷ without_next k writers

-- the k-th of the writers that have not left has a turn
abbrev pub after_writer : ℕ → Stage → Stage
after_writer k s = record s { log = s.log ++ put_by k s.writers; writers = without_next k s.writers; reading = Reads }

-- ---- the reader's turn

-- the reader takes the unit that is due; where there is none it waits, or has ended where all writers left. It waits
-- for the turn of a writer, so that no turn goes by in which nothing can happen
abbrev pub after_taking : ℕ → Option LogUnit → Stage → Stage
after_taking seg (Some u) s = record s {
  number = s.number + 1;
  place = tail unit_words seg (take (s.number + 1) s.log);
  history = with_unit u s.history;
}
after_taking seg None s = record s { reading = if count_writers s.writers == 0 then Ended else Waits }

-- the segment to which the writers have come
abbrev pub last_segment : ℕ → Stage → ℕ
last_segment seg s = tail unit_words seg s.log / seg

-- whether the writers have come six segments ahead of the reader
abbrev pub is_overrun : ℕ → Stage → Bool
is_overrun seg s = nat_le (s.place / seg + 6) (last_segment seg s)

-- the reader is overrun, and goes on with the first unit that starts in the segment four behind the writers', or later.
-- The ring has eight, so what it may take isn't written over yet, and it has room before it is overrun again. It missed the units from the one that was due up to that
abbrev pub after_overrun : ℕ → Stage → Stage
after_overrun seg s =
    let from = last_segment seg s - 4 in
    let first = first_number unit_words seg s.log from in
    record s {
      number = first;
      place = unwrap_or (segment_start unit_words seg s.log from) 0;
      history = UnitRun (record { segment = from; first = first; missed = first - s.number; units = [] }) ∷ Overrun
          (s.place / seg) (last_segment seg s) ∷ s.history;
    }

-- the reader has a turn
abbrev pub after_reader : ℕ → Stage → Stage
after_reader seg s = if is_overrun seg s then after_overrun seg s else after_taking seg (slice_get s.log s.number) s

-- ---- whose turn it is

-- whether the reader may have a turn
abbrev pub is_reading : Reading → Bool
is_reading Reads = true
is_reading Waits = false
is_reading Ended = false

-- whether the reader has ended
abbrev pub has_ended : Reading → Bool
has_ended Reads = false
has_ended Waits = false
has_ended Ended = true

-- how many may have a turn: the writers that have not left, and behind them the reader
abbrev pub count_active : Stage → ℕ
count_active s = count_writers s.writers + (if is_reading s.reading then 1 else 0)

-- the k-th of those that may have a turn has it
abbrev pub after_turn_of : ℕ → ℕ → Stage → Stage
after_turn_of seg k s = if nat_lt k (count_writers s.writers) then after_writer k s else after_reader seg s

-- which of so many that may have a turn has it: feed after feed, which draws nothing, it is the first; in turns it is drawn
abbrev pub chosen_by : Option ℕ → ℕ → ℕ
chosen_by None active = 0
chosen_by (Some x) active = next_draw x % active

-- one turn: its draw is made, and the one that was chosen has it. A draw is made also where one alone may have the
-- turn, so that it can be counted which draw is which turn's
abbrev pub after_turn : ℕ → Stage → Stage
after_turn seg s = if has_ended s.reading then s else after_turn_of seg (chosen_by s.drawn (count_active s))
    (record s { drawn = option_map next_draw s.drawn })

-- so many turns
abbrev pub after_turns : ℕ → ℕ → Stage → Stage
after_turns n seg s = iterate (after_turn seg) n s

-- ---- the whole

-- in this order of turns, drawn from a seed on, or none for feed after feed and then the reader, these feeds give this
-- log and this history, the oldest item first. Feeds could be taken as one list, but a log in memory has a size, and a
-- reader that falls behind misses units: with a stated size and order each run shows the same
abbrev pub IsScheduled : ℕ → Option ℕ → List Log → Log → List (HistoryItem LogUnit) → Type 0
IsScheduled seg order feeds log history =
    (n : ℕ) × (has_ended (after_turns n seg (first_stage order feeds)).reading ≡ true)
    × (log ≡ (after_turns n seg (first_stage order feeds)).log)
    × (history ≡ reverse (after_turns n seg (first_stage order feeds)).history)

-- what the reader met up to a stage
abbrev pub met : Stage → List Item
met s = items_of (reverse s.history)
