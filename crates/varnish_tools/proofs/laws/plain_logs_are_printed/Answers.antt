use Rattle.varnish_tools.proofs.PlainLemmas.{prints_plain}
use Rattle.varnish_tools.proofs.laws.plain_logs_are_printed.Goals as goal

pub returns : goal.returns
returns c = prints_plain c.told_logs_are_written.ensures.writes c.told_logs_are_written.ensures.stops
