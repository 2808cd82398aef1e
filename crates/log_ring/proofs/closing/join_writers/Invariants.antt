use Rattle.std.proofs.Common.{[], vec_len}
use Rattle.log_ring.specs.inside.Steps.{IsJoined}
use Rattle.log_ring.proofs.closing.join_writers.Given as goal

-- the seat stands for the writers that were taken from the end
abbrev pub invariant-loop-writer : goal.invariant-loop-writer
invariant-loop-writer l = IsJoined l.ring l.fn.writers.items l.writers.items [] l.all.table_id l.all.me

abbrev pub decreases-loop-writer : goal.decreases-loop-writer
decreases-loop-writer l = vec_len l.writers
