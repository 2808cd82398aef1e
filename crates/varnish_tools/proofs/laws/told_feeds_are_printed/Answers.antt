use Rattle.varnish_tools.proofs.FedLemmas.{feeds_printed, ring_printed}
use Rattle.varnish_tools.proofs.laws.told_feeds_are_printed.Goals as goal

pub returns-clause-stated : goal.returns-clause-stated
returns-clause-stated c = feeds_printed c.feeds_are_listings_or_have_a_fault.ensures.one c.told_feeds_are_read.ensures.read c.feeds_are_written.ensures.stated

pub returns-clause-live : goal.returns-clause-live
returns-clause-live c = ring_printed c.feeds_are_listings_or_have_a_fault.ensures.one c.told_feeds_are_read.ensures.read c.feeds_are_written.ensures.live
