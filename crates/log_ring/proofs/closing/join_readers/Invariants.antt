use Rattle.std.proofs.Common.{vec_len}
use Rattle.log_ring.specs.inside.Steps.{IsJoinedWith}
use Rattle.log_ring.proofs.closing.join_readers.Given as goal

-- the seat stands for the readers that were taken from the end
abbrev pub invariant-loop-reader : goal.invariant-loop-reader
invariant-loop-reader l = IsJoinedWith l.ring l.fn.writers.items l.fn.readers.items l.readers.items l.all.table_id l.all.me

abbrev pub decreases-loop-reader : goal.decreases-loop-reader
decreases-loop-reader l = vec_len l.readers
