use Rattle.job_steps.specs.Steps.{file_named}
use Rattle.job_steps.proofs.ObjectLemmas.{took_open, halted_open, lacked_open}
use Rattle.job_steps.proofs.objects.open_log.Goals as goal

pub returns-in-Ok : goal.returns-in-Ok
returns-in-Ok g c = record { took = took_open c.args.name.now c.in-Ok.handle _ _ c.in-Ok.ensures }

pub returns-in-Err-Failed : goal.returns-in-Err-Failed
returns-in-Err-Failed g c = record { took = halted_open c.args.name.now c.in_ok-copy.copy _ _ c.in_ok-copy.ensures (rw c.in-Err-Failed.field-0-is at c.in-Err-Failed.ensures) }

pub returns-in-Err-NoMemory : goal.returns-in-Err-NoMemory
returns-in-Err-NoMemory g c = record { took = lacked_open (file_named c.args.name.now) c.args.name.now _ _ (rw c.in-Err-NoMemory.field-0-is at c.in-Err-NoMemory.ensures) }
