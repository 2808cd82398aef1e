use Rattle.varnish_tools.proofs.ToldLemmas.{log_printed}
use Rattle.varnish_tools.proofs.laws.told_logs_are_printed.Goals as goal

pub returns : goal.returns
returns c = log_printed c.told_logs_are_written.ensures.writes c.told_logs_are_written.ensures.stops
