-- The steps, until one ends the work, and then the run.
use Rattle.log_model.specs.declared.fault.Halt.TheVariants.{NoMemory}
use Rattle.job_steps.proofs.TookLemmas.{err_from}
use Rattle.varnish_tools.proofs.WorkLemmas.{convert_end, convert_ran, convert_short}
use Rattle.varnish_tools.proofs.tools.work_convert.Goals as goal

pub returns-in_err-opened : goal.returns-in_err-opened
returns-in_err-opened g c = rw (err_from c.from_residual.result c.in_err-opened.field-0.0 c.from_residual.ensures.1) (convert_end c.args.names.now c.in_err-opened.field-0.0 _ _ c.in_err-opened.ensures.took)

pub returns-in_err-convert_log : goal.returns-in_err-convert_log
returns-in_err-convert_log g c =
    rw (err_from c.from_residual-in_err-convert_log.result NoMemory c.from_residual-in_err-convert_log.ensures.1)
    (convert_short c.args.names.now c.in_ok-opened.opened _ _ _ c.in_ok-opened.ensures.took c.in_err-convert_log.ensures.short)

pub returns : goal.returns
returns g c = convert_ran c.args.names.now c.in_ok-opened.opened _ _ _ c.in_ok-opened.ensures.took c.in_ok-convert_log.field-0 c.in_ok-convert_log.ensures.ran
