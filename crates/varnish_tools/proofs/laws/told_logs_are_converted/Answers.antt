use Rattle.varnish_tools.proofs.ConvertedLemmas.{log_converted}
use Rattle.varnish_tools.proofs.laws.told_logs_are_converted.Goals as goal

pub returns : goal.returns
returns c = log_converted c.converted_logs_are_written.ensures
