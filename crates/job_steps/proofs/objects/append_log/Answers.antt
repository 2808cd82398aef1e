-- The file is created, and looked at where it has bytes.
use Rattle.job_steps.proofs.AppendLemmas.{append_ended, append_good, append_shut}
use Rattle.job_steps.proofs.TookLemmas.{err_from}
use Rattle.job_steps.proofs.objects.append_log.Goals as goal

pub returns-in-Err-Failed-clause-took : goal.returns-in-Err-Failed-clause-took
returns-in-Err-Failed-clause-took g c = append_shut c.args.name.now c.in_ok-copy.copy _ _ c.in_ok-copy.ensures (rw c.in-Err-Failed.field-0-is at c.in-Err-Failed.ensures.made)

pub returns-in_err-look-clause-took : goal.returns-in_err-look-clause-took
returns-in_err-look-clause-took g c =
    let looked = rw c.in_ok-copy.ensures at c.in_err-look.ensures in
    rw (err_from c.from_residual-in_err-look.result c.in_err-look.field-0.0 c.from_residual-in_err-look.ensures.1)
    (append_ended (Unit {0}) c.args.name.now c.in-Ok.sink c.in_err-look.field-0.0 _ _ _ c.if-sink.false c.in-Ok.ensures.made looked)

pub returns-clause-took : goal.returns-clause-took
returns-clause-took g c =
    let looked = rw c.in_ok-copy.ensures at c.in_ok-look.ensures in
    append_good c.args.name.now c.in-Ok.sink (tt {0}) _ _ _ c.if-sink.false c.in-Ok.ensures.made looked
