use Rattle.job_runs.proofs.ToldLemmas.{feeds_write, live_write}
use Rattle.job_runs.proofs.laws.feeds_are_written.Goals as goal

pub returns-clause-stated : goal.returns-clause-stated
returns-clause-stated c = λ job ask sink empty listings fault recorded calls stated ran. feeds_write job ask sink empty listings recorded calls fault _ ran

pub returns-clause-live : goal.returns-clause-live
returns-clause-live c = λ job ask sink empty listings fault recorded calls threads ran. live_write job ask sink empty listings recorded calls fault _ threads ran
