use Rattle.traffic_feed.proofs.OrderLemmas.{gathered_ends}
use Rattle.traffic_feed.proofs.laws.units_are_longest.Goals as goal

pub returns : goal.returns
returns c = gathered_ends
