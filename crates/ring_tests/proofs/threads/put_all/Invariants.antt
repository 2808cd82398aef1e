use Rattle.std.proofs.Common.{◌≡◌}
use Rattle.ring_tests.proofs.threads.put_all.Given as goal

-- the writer is of the ring
abbrev pub invariant-loop-unit : goal.invariant-loop-unit
invariant-loop-unit g l = l.writer.ring ≡ l.ring
