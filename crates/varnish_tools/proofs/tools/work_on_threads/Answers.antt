-- The rules, and what is left behind the steps.
use Rattle.log_model.specs.declared.fault.Halt.TheVariants.{NoMemory}
use Rattle.job_steps.proofs.TookLemmas.{err_from}
use Rattle.varnish_tools.proofs.WorkLemmas.{rules_end}
use Rattle.varnish_tools.proofs.tools.work_on_threads.Goals as goal

pub returns-in_err-selection : goal.returns-in_err-selection
returns-in_err-selection g c = rw (err_from c.from_residual.result c.in_err-selection.field-0.0 c.from_residual.ensures.1) (rules_end c.args.job.now c.in_err-selection.field-0.0 _ c.in_err-selection.ensures.took)

pub returns-in_err-print_live-in-Groups : goal.returns-in_err-print_live-in-Groups
returns-in_err-print_live-in-Groups g c =
    let left = rw c.in-Groups.is at c.in_ok-ran.ensures.ready in
    rw (err_from c.from_residual-in_err-print_live-in-Groups.result NoMemory c.from_residual-in_err-print_live-in-Groups.ensures.1) (left.4.short _ c.in_err-print_live-in-Groups.ensures.short)

pub returns : goal.returns
returns g c =
    let left = rw c.in-Groups.is at c.in_ok-ran.ensures.ready in
    left.4.ran c.in_ok-print_live-in-Groups.field-0 _ c.in_ok-print_live-in-Groups.ensures.ran
