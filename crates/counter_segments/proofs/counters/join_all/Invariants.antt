use Rattle.std.proofs.Common.{vec_len}
use Rattle.counter_segments.specs.inside.Steps.{IsJoined}
use Rattle.counter_segments.proofs.counters.join_all.Given as goal

-- the seat stands for the passes that were taken from the end
abbrev pub invariant-loop-pass : goal.invariant-loop-pass
invariant-loop-pass l = IsJoined l.counters l.fn.passes.items l.passes.items l.seat.table_id l.seat.me

abbrev pub decreases-loop-pass : goal.decreases-loop-pass
decreases-loop-pass l = vec_len l.passes
