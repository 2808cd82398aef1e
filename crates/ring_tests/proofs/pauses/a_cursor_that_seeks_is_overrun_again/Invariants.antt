use Rattle.std.proofs.Common.{◌≡◌}
use Rattle.ring_tests.proofs.pauses.a_cursor_that_seeks_is_overrun_again.Given as goal

-- the passes are of the ring
abbrev pub invariant-loop : goal.invariant-loop
invariant-loop g l = (l.writer.ring ≡ l.initial.writer.ring) × (l.reader.ring ≡ l.initial.reader.ring)
