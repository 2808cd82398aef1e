-- What a worker puts into a ring that it shares, and what it counts (this project's choice).
use Rattle.std.specs.Prelude.{◌≡◌, ◌⊎◌, ℕ, ◌+◌, ◌^◌, ◌<◌, ◌≤◌, List, ◌∷◌, ◌++◌, length, min, slice_get, Option, Some, None}
use Rattle.std.specs.List.{All, sum_by}
use Rattle.log_model.specs.Prefix.{IsPrefix}
use Rattle.vsl_record.specs.Unit.{LogUnit, Log}
use Rattle.vsl_record.specs.Words.{unit_words}
use Rattle.ring_layout.specs.Places.{end_at, last_tail}
use Rattle.log_ring.specs.Ring.{RingSet}
use Rattle.log_ring.specs.Writers.{WriterState, count_wrapped, new_writer, units_put}
use Rattle.counter_segments.specs.Sums.{CounterSet, PassSums, counter_count, own_sum, new_pass}
use Rattle.traffic_feed.specs.declared.listing.Listing.{Listing}
use Rattle.traffic_feed.specs.Batches.{IsWithin}
use Rattle.traffic_feed.specs.Counted.{causes, unit_share, cut_raise, wait_raise, wrap_raise}
use Rattle.traffic_feed.specs.Listing.{record_count}
use Rattle.traffic_feed.specs.declared.feeding.Fed.{Fed}

-- the most records of a listing that a worker puts: few enough that no counter comes near its ceiling
abbrev pub most_records : ℕ
most_records = 4194304

-- the most waits that a worker tells
abbrev pub most_waits : ℕ
most_waits = 2 ^ 56

-- a worker may begin: its passes are new ones of this ring and of these counters, each unit of its listing has room in a segment, and its records and cuts are few
pub record IsReady (ring : RingSet) (counters : CounterSet) (writer : WriterState) (summed : PassSums) (listing : Listing) : Type 0 where
  pub pass : writer ≡ new_writer ring writer.number
  pub counts : summed ≡ new_pass counters
  pub within : All (IsWithin ring.seg) listing.units
  pub few : record_count listing.units ≤ most_records
  pub cuts : listing.cuts ≤ record_count listing.units

-- by how much a worker raises a counter: by the units that it put, the cuts of its listing, its waits, and its units that wrapped
abbrev pub fed_share : ℕ → Log → ℕ → ℕ → ℕ → ℕ
fed_share which units cuts waits wraps =
    sum_by (unit_share which) units +
    (cut_raise (slice_get causes which) cuts +
    (wait_raise (slice_get causes which) waits + wrap_raise (slice_get causes which) wraps))

-- how many units of a writer wrapped
abbrev pub wraps_of : WriterState → ℕ
wraps_of w = count_wrapped w.ring.seg w.entries

-- at this tail the ring had no place for a worker's next unit; it is at most the greatest tail that the worker found
pub record IsFullAt (seg tail : ℕ) (units : Log) (writer : WriterState) : Type 0 where
  pub found : tail ≤ writer.found
  pub next : LogUnit
  pub rest : Log
  pub units_are : units ≡ units_put writer ++ next ∷ rest
  pub no_place : last_tail < end_at seg tail (length (unit_words next))

-- what a worker leaves: it put the first units of its listing, or all of them where the ring had room, and counted them, its waits and wraps, and all cuts of the listing
pub record IsFed (ring : RingSet) (counters : CounterSet) (listing : Listing) (fed : Fed) : Type 0 where
  pub in_ring : fed.left.ring ≡ ring
  pub of_counters : fed.counts.counters ≡ counters
  pub put : IsPrefix (units_put fed.left) listing.units
  pub all : fed.full ≡ None → units_put fed.left ≡ listing.units
  pub full : (tail : ℕ) → fed.full ≡ Some tail → IsFullAt ring.seg tail listing.units fed.left
  pub counted : (which : ℕ) → which < counter_count →
      own_sum which fed.counts ≡ fed_share which (units_put fed.left) listing.cuts fed.busy (wraps_of fed.left)
  -- where the ring was full, the waits of the last put aren't told
  pub busy : fed.full ≡ None → fed.busy ≡ min fed.left.busy most_waits
  pub most : fed.busy ≤ min fed.left.busy most_waits
  -- a worker alone never waits
  pub alone : (fed.left.busy ≡ 0) ⊎ (1 < ring.writers)

-- how many puts a worker began: one for each unit that it put, and one more where the ring had no place
abbrev pub put_count : List (ℕ × LogUnit) → Option ℕ → ℕ
put_count entries None = length entries
put_count entries (Some tail) = length entries + 1

-- a gate was asked before each of these puts. So a test can hold any thread; the gate of the program holds nobody
abbrev pub WasAskedEach : (ℕ → Type 0) → List (ℕ × LogUnit) → Option ℕ → Type 0
WasAskedEach was_asked entries full = (unit : ℕ) → unit < put_count entries full → was_asked unit
