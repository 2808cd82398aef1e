-- the counters before the number have been raised, and the others are as they were
use Rattle.std.proofs.Common.{◌≡◌, ◌+◌, ◌<◌, ◌≤◌, ℕ, length}
use Rattle.counter_segments.specs.Sums.{own_sum}
use Rattle.traffic_feed.specs.Counted.{unit_share}
use Rattle.traffic_feed.proofs.counting.count_unit.Given as goal

abbrev pub invariant-loop-which : goal.invariant-loop-which
invariant-loop-which l = record {
  same : l.counts.counters ≡ l.initial.counts.counters;
  whole : length l.counts.sums ≡ length l.initial.counts.sums;
  raised : (n : ℕ) → n < l.which → own_sum n l.counts ≡ own_sum n l.initial.counts + unit_share n l.unit;
  others : (n : ℕ) → l.which ≤ n → own_sum n l.counts ≡ own_sum n l.initial.counts;
}
