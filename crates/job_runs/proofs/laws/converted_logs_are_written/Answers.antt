use Rattle.job_runs.proofs.WrittenLemmas.{log_converted}
use Rattle.job_runs.proofs.laws.converted_logs_are_written.Goals as goal

pub returns : goal.returns
returns c = log_converted
