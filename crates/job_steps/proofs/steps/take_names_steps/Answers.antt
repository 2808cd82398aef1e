-- The log, and then what is written.
use Rattle.job_steps.proofs.TookLemmas.{err_from, passed_so, then_passed}
use Rattle.job_steps.proofs.NamesLemmas.{is_opened, log_ends, written_ends}
use Rattle.job_steps.proofs.steps.take_names_steps.Goals as goal

pub returns-in_err-handle-clause-took : goal.returns-in_err-handle-clause-took
returns-in_err-handle-clause-took g c =
    rw (err_from c.from_residual.result c.in_err-handle.field-0.0 c.from_residual.ensures.1) (log_ends c.args.names.now c.in_err-handle.field-0.0 _ _ (rw c.as_str.ensures at c.in_err-handle.ensures.took))

pub returns-in_err-sink-clause-took : goal.returns-in_err-sink-clause-took
returns-in_err-sink-clause-took g c =
    rw (err_from c.from_residual-in_err-sink.result c.in_err-sink.field-0.0 c.from_residual-in_err-sink.ensures.1)
    (written_ends c.args.names.now _ c.in_err-sink.field-0.0 _ _ _ (rw c.as_str.ensures at c.in_ok-handle.ensures.took) (rw c.as_str-2.ensures at c.in_err-sink.ensures.took))

pub returns-clause-took : goal.returns-clause-took
returns-clause-took g c =
    passed_so (is_opened (record { handle = c.in_ok-handle.handle; sink = c.in_ok-sink.sink })) (then_passed _ _ _ _ _ _ _ (rw c.as_str.ensures at c.in_ok-handle.ensures.took) (rw c.as_str-2.ensures at c.in_ok-sink.ensures.took))
