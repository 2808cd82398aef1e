use Rattle.traffic_feed.proofs.PartlyLemmas.{every_listing}
use Rattle.traffic_feed.proofs.laws.every_listing.Goals as goal

pub returns : goal.returns
returns c = every_listing
