use Rattle.std.proofs.Common.{length}
use Rattle.traffic_feed.specs.inside.Partly.{IsPartlyRead}
use Rattle.traffic_feed.proofs.listing.read_listing.Given as goal

-- the lines before the rest were read and gathered
abbrev pub invariant-loop-rest : goal.invariant-loop-rest
invariant-loop-rest l = IsPartlyRead l.bytes l.rest l.reclen l.fn.shape l.line l.gathering

abbrev pub decreases-loop-rest : goal.decreases-loop-rest
decreases-loop-rest l = length l.rest
