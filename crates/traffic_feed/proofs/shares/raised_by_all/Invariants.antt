-- the records so far raise each counter by its sum
use Rattle.std.proofs.Common.{◌≡◌, ◌<◌, ℕ, take}
use Rattle.std.specs.Prelude.{slice_get, slice_index}
use Rattle.std.specs.List.{sum_by}
use Rattle.counter_segments.specs.Sums.{counter_count}
use Rattle.traffic_feed.specs.Counted.{causes}
use Rattle.traffic_feed.specs.inside.Raises.{raise_at}
use Rattle.traffic_feed.proofs.shares.raised_by_all.Given as goal

abbrev pub invariant-loop-i : goal.invariant-loop-i
invariant-loop-i l = (which : ℕ) → which < counter_count → slice_index l.sums which ≡ sum_by (raise_at (slice_get causes which)) (take l.i l.records)
