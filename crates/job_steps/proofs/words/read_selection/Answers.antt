-- The first rule that is wrong refuses the job.
use Rattle.job_steps.proofs.WordLemmas.{rules_halt}
use Rattle.job_steps.proofs.words.read_selection.Goals as goal

pub returns-in-Err : goal.returns-in-Err
returns-in-Err c =
    let first = rw c.in_ok-rules.ensures at c.in-Err.ensures.refused in
    record { took = rules_halt c.args.job.now c.in-Err.fault c.rule_halt.result first c.rule_halt.ensures }
