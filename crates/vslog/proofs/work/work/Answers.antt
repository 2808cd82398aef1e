use Rattle.varnish_log.specs.Copied.{CopiedThen, IsEnd, IsLog, IsNoLog, IsStarved}
use Rattle.vslog.specs.Words.{job_as}
use Rattle.vslog.proofs.WorkLemmas.{begun_then, lacks_copying}
use Rattle.vslog.proofs.work.work.Goals as goal

pub returns-in-Ok-clause-copied : goal.returns-in-Ok-clause-copied
returns-in-Ok-clause-copied g c =
    begun_then (job_as c.args.job) c.in_ok-ends.ends (λ input output rest. IsLog c.args.job.asked input (λ how first. CopiedThen how input output first (IsEnd how input output c.in-Ok.copied)) rest) _ _ _ c.in_ok-ends.ensures.begun c.in-Ok.ensures.copied

pub returns-in-Err-Fault-clause-fault : goal.returns-in-Err-Fault-clause-fault
returns-in-Err-Fault-clause-fault g c =
    begun_then (job_as c.args.job) c.in_ok-ends.ends (λ input output rest. IsNoLog c.args.job.asked input output c.in-Err-Fault.fault rest) _ _ _ c.in_ok-ends.ensures.begun (rw c.in-Err-Fault.field-0-is at c.in-Err-Fault.ensures.fault)

pub returns-in-Err-NoMemory-clause-short : goal.returns-in-Err-NoMemory-clause-short
returns-in-Err-NoMemory-clause-short g c =
    lacks_copying (job_as c.args.job) _ _
    (begun_then (job_as c.args.job) c.in_ok-ends.ends (λ input output rest. IsLog c.args.job.asked input (λ how first. CopiedThen how input output first (IsStarved how input output)) rest) _ _ _ c.in_ok-ends.ensures.begun (rw c.in-Err-NoMemory.field-0-is at c.in-Err-NoMemory.ensures.short))
