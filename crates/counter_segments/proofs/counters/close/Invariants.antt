use Rattle.std.proofs.Common.{◌≡◌, ◌≤◌, ℕ, map, vec_len, vec_capacity}
use Rattle.std.specs.List.{range_with_len}
use Rattle.counter_segments.specs.Sums.{total, counter_count}
use Rattle.counter_segments.specs.inside.Rule.{sum_of}
use Rattle.counter_segments.specs.inside.Steps.{IsWhole}
use Rattle.counter_segments.proofs.counters.close.Given as goal

-- the values of the counters below this one were pushed
abbrev pub invariant-loop-which : goal.invariant-loop-which
invariant-loop-which l =
    IsWhole l.fn.counters l.seat.table_id l.seat.me.0
    × ((counter : ℕ) → sum_of counter l.seat.me.0 ≡ total counter l.fn.passes.items)
    × (l.values.items ≡ map (λ counter. total counter l.fn.passes.items) (range_with_len 0 l.which))
    × (vec_len l.values ≡ l.which)
    × (counter_count ≤ vec_capacity l.values)
