use Rattle.std.proofs.Common.{length}
use Rattle.varnish_log.specs.inside.Taking.{ArePartlyTaken}
use Rattle.varnish_log.proofs.taking.take_parts.Given as goal

-- the parts before the rest were taken
abbrev pub invariant-loop-vxid : goal.invariant-loop-vxid
invariant-loop-vxid l = ArePartlyTaken l.how l.bytes l.rest l.units l.initial.out.items l.out.items l.initial.counts l.counts

abbrev pub decreases-loop-vxid : goal.decreases-loop-vxid
decreases-loop-vxid l = length l.rest
