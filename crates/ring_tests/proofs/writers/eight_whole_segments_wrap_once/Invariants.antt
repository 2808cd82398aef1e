use Rattle.std.proofs.Common.{◌≡◌}
use Rattle.ring_tests.proofs.writers.eight_whole_segments_wrap_once.Given as goal

-- the writer is of the ring
abbrev pub invariant-loop : goal.invariant-loop
invariant-loop g l = l.writer.ring ≡ l.initial.writer.ring
