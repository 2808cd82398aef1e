use Rattle.std.proofs.Common.{true}
use Rattle.txn_partition.specs.Partition.{partition}
use Rattle.job_steps.specs.Jobs.{options_of}
use Rattle.varnish_tools.proofs.PartedLemmas.{due_is}
use Rattle.varnish_tools.proofs.laws.regular_logs_are_parted.Goals as goal

pub returns : goal.returns
returns c = λ job ask empty units grouped regular calm.
    due_is job ask empty units (partition units job.grouping) (c.groups_are_the_partition.ensures.reported (options_of job) units grouped regular calm true)
