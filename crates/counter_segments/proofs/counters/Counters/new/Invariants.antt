use Rattle.std.proofs.Common.{◌≡◌, ◌+◌, ◌-◌, ◌≤◌, replicate, vec_capacity}
use Rattle.counter_segments.specs.Sums.{new_pass}
use Rattle.counter_segments.specs.inside.Rule.{IsFresh}
use Rattle.counter_segments.proofs.counters.Counters.new.Given as goal

-- the seat stands for the passes that are not made yet
abbrev pub invariant-loop : goal.invariant-loop
invariant-loop l =
    (l.seat.table_id ≡ l.counters.table)
    × (l.seat.me.0.all ≡ l.counters.passes)
    × (l.counters.passes ≡ l.fn.passes)
    × IsFresh l.seat.me
    × (l.seat.me.0.passes + l.counter ≡ l.fn.passes + 1)
    × (l.all.items ≡ replicate (l.counter - 1) (new_pass l.counters))
    × (l.fn.passes ≤ vec_capacity l.all)
