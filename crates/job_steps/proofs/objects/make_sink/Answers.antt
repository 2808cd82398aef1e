use Rattle.job_steps.proofs.ObjectLemmas.{took_create, halted_create, lacked_create}
use Rattle.job_steps.proofs.objects.make_sink.Goals as goal

pub returns-in-Ok-clause-took : goal.returns-in-Ok-clause-took
returns-in-Ok-clause-took g c = took_create c.args.append c.args.name.now c.in-Ok.sink _ _ c.in-Ok.ensures.made

pub returns-in-Err-Failed-clause-took : goal.returns-in-Err-Failed-clause-took
returns-in-Err-Failed-clause-took g c =
    halted_create c.args.append c.args.name.now c.in_ok-copy.copy _ _ c.in_ok-copy.ensures (rw c.in-Err-Failed.field-0-is at c.in-Err-Failed.ensures.made)

pub returns-in-Err-NoMemory-clause-took : goal.returns-in-Err-NoMemory-clause-took
returns-in-Err-NoMemory-clause-took g c = lacked_create c.args.append c.args.name.now _ _ (rw c.in-Err-NoMemory.field-0-is at c.in-Err-NoMemory.ensures.made)
