use Rattle.traffic_feed.proofs.OrderLemmas.{listing_in_order}
use Rattle.traffic_feed.proofs.laws.each_record_once.Goals as goal

pub returns : goal.returns
returns c = listing_in_order
