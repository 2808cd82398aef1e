use Rattle.job_runs.proofs.GoodLemmas.{convert_fault, job_fault, whole_runs}
use Rattle.job_runs.proofs.laws.faults_have_failed_calls.Goals as goal

pub returns-clause-cause : goal.returns-clause-cause
returns-clause-cause c = job_fault

pub returns-clause-convert : goal.returns-clause-convert
returns-clause-convert c = convert_fault

pub returns-clause-whole : goal.returns-clause-whole
returns-clause-whole c = whole_runs
