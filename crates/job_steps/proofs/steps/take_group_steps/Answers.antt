-- One part behind the other, until one ends the job.
use Rattle.std.proofs.Common.{List, Option}
use Rattle.ncsa_format.specs.declared.formatter.Piece.{Piece}
use Rattle.job_steps.proofs.TookLemmas.{err_from, passed_so, then_passed}
use Rattle.job_steps.proofs.BegunLemmas.{query_ends, format_ends, input_ends, sink_ends, format_passed, is_begun}
use Rattle.job_steps.proofs.steps.take_group_steps.Goals as goal

pub returns-in_err-query-clause-took : goal.returns-in_err-query-clause-took
returns-in_err-query-clause-took g c = rw (err_from c.from_residual.result c.in_err-query.field-0.0 c.from_residual.ensures.1) (query_ends c.args.job.now c.in_err-query.field-0.0 _ _ c.in_err-query.ensures.took)

pub returns-in_err-format-clause-took : goal.returns-in_err-format-clause-took
returns-in_err-format-clause-took g c =
    rw (err_from c.from_residual-in_err-format.result c.in_err-format.field-0.0 c.from_residual-in_err-format.ensures.1)
    (format_ends (Option (List Piece)) c.args.job.now _ c.in_err-format.field-0.0 _ _ c.in_ok-query.ensures.took c.in_err-format.ensures.refused)

pub returns-in_err-input-clause-took : goal.returns-in_err-input-clause-took
returns-in_err-input-clause-took g c =
    let formed = format_passed c.args.job.now _ _ _ c.in_ok-format.ensures.read.1 c.in_ok-query.ensures.took in
    rw (err_from c.from_residual-in_err-input.result c.in_err-input.field-0.0 c.from_residual-in_err-input.ensures.1) (input_ends c.args.job.now _ c.in_err-input.field-0.0 _ _ _ formed c.in_err-input.ensures.took)

pub returns-in_err-sink-clause-took : goal.returns-in_err-sink-clause-took
returns-in_err-sink-clause-took g c =
    let formed = format_passed c.args.job.now _ _ _ c.in_ok-format.ensures.read.1 c.in_ok-query.ensures.took in
    let read = then_passed _ _ _ _ _ _ _ formed c.in_ok-input.ensures.took in
    rw (err_from c.from_residual-in_err-sink.result c.in_err-sink.field-0.0 c.from_residual-in_err-sink.ensures.1) (sink_ends c.args.job.now _ c.in_err-sink.field-0.0 _ _ _ read c.in_err-sink.ensures.took)

pub returns-clause-took : goal.returns-clause-took
returns-clause-took g c =
    let formed = format_passed c.args.job.now _ _ _ c.in_ok-format.ensures.read.1 c.in_ok-query.ensures.took in
    let read = then_passed _ _ _ _ _ _ _ formed c.in_ok-input.ensures.took in
    passed_so (λ us so. is_begun c.args.job.now _ us c.in_ok-format.ensures.read.0 so) (then_passed _ _ _ _ _ _ _ read c.in_ok-sink.ensures.took)
