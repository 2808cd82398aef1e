-- The text was written, or not.
use Rattle.std.proofs.Common.{List, ℕ, Err, ap}
use Rattle.job_steps.specs.declared.fault.ToolFault.TheVariants.{WriteFault}
use Rattle.job_runs.proofs.CounterLemmas.{wrote_all, wrote_failed, wrote_part}
use Rattle.job_runs.proofs.counters.write_text.Goals as goal

pub returns-in-Ok-clause-wrote : goal.returns-in-Ok-clause-wrote
returns-in-Ok-clause-wrote g c = wrote_all c.args.sink c.args.text.now _ _ c.in-Ok.ensures.ok

pub returns-in-Err-Failed-clause-wrote : goal.returns-in-Err-Failed-clause-wrote
returns-in-Err-Failed-clause-wrote g c =
    wrote_failed c.args.sink c.args.text.now _ _ _ (ap (λ (n : List ℕ). WriteFault n) c.in_ok-name.ensures) c.requires.named c.in-Err-Failed.ensures.err (c.in-Err-Failed.ensures.failed (ap Err c.in-Err-Failed.field-0-is))

pub returns-in-Err-NoMemory-clause-short : goal.returns-in-Err-NoMemory-clause-short
returns-in-Err-NoMemory-clause-short g c = wrote_part c.args.sink c.args.text.now _ _ c.in-Err-NoMemory.ensures.err
