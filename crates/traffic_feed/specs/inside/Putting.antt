-- What a worker has put and counted between two puts (this project's choice).
use Rattle.std.specs.Prelude.{◌≡◌, ◌⊎◌, ℕ, ◌+◌, ◌<◌, ◌≤◌, length, min, take, Option, Some, None}
use Rattle.std.specs.List.{sum_by}
use Rattle.vsl_record.specs.Unit.{Log}
use Rattle.log_ring.specs.Ring.{RingSet}
use Rattle.log_ring.specs.Writers.{WriterState, units_put}
use Rattle.counter_segments.specs.Sums.{CounterSet, PassSums, counter_count, own_sum}
use Rattle.traffic_feed.specs.Counted.{unit_share}
use Rattle.traffic_feed.specs.Feeding.{IsFullAt, most_waits}

-- a worker's pass to the counters added so much to each
abbrev pub HasAdded : (ℕ → ℕ) → PassSums → PassSums → Type 0
HasAdded more old new = (which : ℕ) → which < counter_count → own_sum which new ≡ own_sum which old + more which

-- the first n units were put and counted
pub record HasPutFirst (ring : RingSet) (counters : CounterSet) (units : Log) (n : ℕ) (pass : WriterState) (counts : PassSums) (busy : ℕ) : Type 0 where
  pub in_ring : pass.ring ≡ ring
  pub of_counters : counts.counters ≡ counters
  pub inside : n ≤ length units
  pub put : units_put pass ≡ take n units
  pub counted : (which : ℕ) → which < counter_count → own_sum which counts ≡ sum_by (unit_share which) (take n units)
  pub most : busy ≤ min pass.busy most_waits
  pub alone : (pass.busy ≡ 0) ⊎ (1 < ring.writers)

-- all units were put and counted, or the first ones, and at this tail the ring had no place for the next
pub record StoppedAt (ring : RingSet) (counters : CounterSet) (units : Log) (full : Option ℕ) (pass : WriterState) (counts : PassSums) (busy : ℕ) : Type 0 where
  pub n : ℕ
  pub has_put : HasPutFirst ring counters units n pass counts busy
  pub all : full ≡ None → (n ≡ length units) × (busy ≡ min pass.busy most_waits)
  pub next : (tail : ℕ) → full ≡ Some tail → IsFullAt ring.seg tail units pass
