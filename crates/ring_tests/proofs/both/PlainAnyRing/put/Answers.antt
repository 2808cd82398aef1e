use Rattle.std.proofs.Common.{rules}
use Rattle.ring_tests.proofs.StandingLemmas.{stands_put}
use Rattle.ring_tests.proofs.both.PlainAnyRing.put.Goals as goal

pub invariant_of-self-2 : goal.invariant_of-self-2
invariant_of-self-2 c = (search rules, stands_put _ c.put.new.self _ c.args.unit.now c.self.invariant.1 c.in_ok-put.ensures.shape c.in_ok-put.ensures.put)
