use Rattle.job_steps.specs.Jobs.{file_of}
use Rattle.job_runs.specs.Rows.{job_due}
use Rattle.job_runs.proofs.ToldLemmas.{job_lasts}
use Rattle.job_runs.proofs.WrittenLemmas.{log_stops, log_writes}
use Rattle.job_runs.proofs.laws.told_logs_are_written.Goals as goal

pub returns-clause-writes : goal.returns-clause-writes
returns-clause-writes c = λ job ask h others sink empty units ending fault recorded calls before now tells did ran. log_writes (job_due job ask empty) (job_lasts job ask empty) (file_of job) h others sink units ending calls before now tells did fault _ ran

pub returns-clause-stops : goal.returns-clause-stops
returns-clause-stops c = λ job ask h others sink empty units ending fault recorded calls before now why named tells did ran is names. log_stops (job_due job ask empty) (job_lasts job ask empty) (file_of job) h others sink units ending calls before now tells did fault _ why named ran is names
