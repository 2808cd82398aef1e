-- The feeds, and then standard output.
use Rattle.job_steps.proofs.TookLemmas.{err_from, passed_so, then_passed}
use Rattle.job_steps.proofs.BegunLemmas.{feeds_end, output_ends, is_counting}
use Rattle.job_steps.proofs.steps.take_counter_steps.Goals as goal

pub returns-in_err-listings-clause-took : goal.returns-in_err-listings-clause-took
returns-in_err-listings-clause-took g c = rw (err_from c.from_residual.result c.in_err-listings.field-0.0 c.from_residual.ensures.1) (feeds_end c.args.job.now c.in_err-listings.field-0.0 _ _ c.in_err-listings.ensures.took)

pub returns-in_err-sink-clause-took : goal.returns-in_err-sink-clause-took
returns-in_err-sink-clause-took g c =
    rw (err_from c.from_residual-in_err-sink.result c.in_err-sink.field-0.0 c.from_residual-in_err-sink.ensures.1)
    (output_ends c.args.job.now _ c.in_err-sink.field-0.0 _ _ _ c.in_ok-listings.ensures.took c.in_err-sink.ensures.took)

pub returns-clause-took : goal.returns-clause-took
returns-clause-took g c = passed_so (is_counting (record { listings = c.in_ok-listings.listings; sink = c.in_ok-sink.sink })) (then_passed _ _ _ _ _ _ _ c.in_ok-listings.ensures.took c.in_ok-sink.ensures.took)
