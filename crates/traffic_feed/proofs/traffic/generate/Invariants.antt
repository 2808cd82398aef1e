use Rattle.traffic_feed.specs.inside.Making.{IsPartlyMade}
use Rattle.traffic_feed.proofs.traffic.generate.Given as goal

-- the requests before the number were made
abbrev pub invariant-loop-k : goal.invariant-loop-k
invariant-loop-k l = IsPartlyMade l.seed l.reclen l.fn.shape l.k l.turns l.maker.gathering
