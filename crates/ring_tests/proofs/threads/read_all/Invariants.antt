use Rattle.std.proofs.Common.{◌≡◌}
use Rattle.ring_tests.proofs.threads.read_all.Given as goal

-- the reader is of the ring
abbrev pub invariant-loop : goal.invariant-loop
invariant-loop g l = (goal.iterator-loop g).can_next l.iterator' × (goal.iterator-loop g).is_finite l.iterator' × (l.reader.ring ≡ l.ring)
