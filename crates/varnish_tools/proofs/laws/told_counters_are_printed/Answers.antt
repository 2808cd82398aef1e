use Rattle.varnish_tools.proofs.FedLemmas.{counters_printed}
use Rattle.varnish_tools.proofs.laws.told_counters_are_printed.Goals as goal

pub returns : goal.returns
returns c = counters_printed c.feeds_are_listings_or_have_a_fault.ensures.one c.told_feeds_are_read.ensures.read
