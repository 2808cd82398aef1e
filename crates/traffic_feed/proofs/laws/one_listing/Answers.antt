use Rattle.raw_records.proofs.LineLemmas.{one_bad}
use Rattle.traffic_feed.proofs.PartlyLemmas.{one_listing, no_bad_line}
use Rattle.traffic_feed.proofs.laws.one_listing.Goals as goal

pub returns-clause-one : goal.returns-clause-one
returns-clause-one c = one_listing

pub returns-clause-one_bad : goal.returns-clause-one_bad
returns-clause-one_bad c = one_bad

pub returns-clause-none : goal.returns-clause-none
returns-clause-none c = no_bad_line
