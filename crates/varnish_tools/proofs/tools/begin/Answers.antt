-- The steps, one after the other, until one ends the work; behind them the run over a log, or what is left to run.
use Rattle.log_model.specs.declared.fault.Halt.TheVariants.{NoMemory}
use Rattle.job_steps.specs.Steps.{counter_steps, group_steps}
use Rattle.job_steps.proofs.TookLemmas.{err_from}
use Rattle.varnish_tools.proofs.FoundLemmas.{found_behind}
use Rattle.varnish_tools.proofs.WorkLemmas.{counter_job, counters_end, counters_ran, counters_short, feeds_ran, feeds_short, group_job, job_end, job_ran, job_short, log_ran, log_short, none_short}
use Rattle.varnish_tools.proofs.tools.begin.Goals as goal

-- ---- counters

pub returns-in_err-counting-clause-ended : goal.returns-in_err-counting-clause-ended
returns-in_err-counting-clause-ended g c =
    let counts = rw c.is_counting.ensures at c.if-is_counting.true in
    rw (err_from c.from_residual.result c.in_err-counting.field-0.0 c.from_residual.ensures.1)
    (counters_end c.args.job.now _ c.requires.rules (counter_steps c.args.job.now) c.in_err-counting.field-0.0 _ _ (counter_job c.args.job.now counts) c.in_err-counting.ensures.took)

pub returns-then-is_counting-clause-ready : goal.returns-then-is_counting-clause-ready
returns-then-is_counting-clause-ready g c =
    let counts = rw c.is_counting.ensures at c.if-is_counting.true in
    let are = counter_job c.args.job.now counts in (
      c.in_ok-counting.ensures.fit,
      c.in_ok-counting.ensures.named,
      record {
        ran = λ ran u came. job_ran c.args.job.now _ c.requires.rules _ (counter_steps c.args.job.now) ran _ _ u are c.in_ok-counting.ensures.took
            (λ us so. counters_ran c.args.job.now c.in_ok-counting.counting us counts so ran.fault ran.run _ u came);
        short = λ u short. job_short c.args.job.now _ c.requires.rules _ (counter_steps c.args.job.now) _ _ u are c.in_ok-counting.ensures.took
            (λ us so. counters_short c.args.job.now c.in_ok-counting.counting us counts so _ u short);
      },
    )

-- ---- groups

pub returns-in_err-query-clause-ended : goal.returns-in_err-query-clause-ended
returns-in_err-query-clause-ended g c =
    let reads = rw c.is_counting.ensures at c.if-is_counting.false in
    rw (err_from c.from_residual-in_err-query.result c.in_err-query.field-0.0 c.from_residual-in_err-query.ensures.1)
    (job_end c.args.job.now _ c.requires.rules (group_steps c.args.job.now) c.in_err-query.field-0.0 _ _ (group_job c.args.job.now reads) c.in_err-query.ensures.took)

pub returns-in_err-consumer-clause-ended : goal.returns-in_err-consumer-clause-ended
returns-in_err-consumer-clause-ended g c =
    let reads = rw c.is_counting.ensures at c.if-is_counting.false in
    rw (err_from c.from_residual-in_err-consumer.result NoMemory c.from_residual-in_err-consumer.ensures.1)
    (job_short c.args.job.now _ c.requires.rules _ (group_steps c.args.job.now) _ _ _ (group_job c.args.job.now reads) c.in_ok-query.ensures.took (λ us so. none_short c.args.job.now (found_behind us) _))

pub returns-in_err-ran-in-Log-clause-ended : goal.returns-in_err-ran-in-Log-clause-ended
returns-in_err-ran-in-Log-clause-ended g c =
    let reads = rw c.is_counting.ensures at c.if-is_counting.false in
    rw (err_from c.from_residual-in_err-ran-in-Log.result NoMemory c.from_residual-in_err-ran-in-Log.ensures.1)
    (job_short c.args.job.now _ c.requires.rules _ (group_steps c.args.job.now) _ _ _ (group_job c.args.job.now reads) c.in_ok-query.ensures.took
    (λ us so. log_short c.args.job.now c.in_ok-query.field-0 us reads so c.in-Log.handle _ _ c.in-Log.is c.in_err-ran-in-Log.ensures.short))

pub returns-in-Log-clause-ready : goal.returns-in-Log-clause-ready
returns-in-Log-clause-ready g c =
    let reads = rw c.is_counting.ensures at c.if-is_counting.false in
    job_ran c.args.job.now _ c.requires.rules _ (group_steps c.args.job.now) c.in_ok-ran-in-Log.ran _ _ _ (group_job c.args.job.now reads) c.in_ok-query.ensures.took
    (λ us so. log_ran c.args.job.now c.in_ok-query.field-0 us reads so c.in-Log.handle _ _ _ _ c.in-Log.is c.in_ok-ran-in-Log.ensures.ran)

pub returns-clause-ready : goal.returns-clause-ready
returns-clause-ready g c =
    let reads = rw c.is_counting.ensures at c.if-is_counting.false in
    let are = group_job c.args.job.now reads in
    let fit = rw c.in-Feeds.is at c.in_ok-query.ensures.fit in (
      fit,
      c.in_ok-consumer.ensures,
      c.in_ok-query.ensures.named,
      c.in_ok-query.ensures.apart,
      record {
        ran = λ ran u came. job_ran c.args.job.now _ c.requires.rules _ (group_steps c.args.job.now) ran _ _ u are c.in_ok-query.ensures.took
            (λ us so. feeds_ran c.args.job.now c.in_ok-query.field-0 us reads so _ c.in-Feeds.listings.items ran.fault ran.run _ u c.in-Feeds.is (λ vs h. h) came);
        short = λ u short. job_short c.args.job.now _ c.requires.rules _ (group_steps c.args.job.now) _ _ u are c.in_ok-query.ensures.took
            (λ us so. feeds_short c.args.job.now c.in_ok-query.field-0 us reads so _ c.in-Feeds.listings.items _ u c.in-Feeds.is (λ vs h. h) short);
      },
    )
