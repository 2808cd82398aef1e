use Rattle.job_steps.proofs.FitLemmas.{fit_feeds}
use Rattle.job_steps.proofs.FeedStepLemmas.{feeds_read, feeds_stop, feeds_lack}
use Rattle.job_steps.proofs.feeds.take_feeds.Goals as goal

pub returns-in-Ok-clause-took : goal.returns-in-Ok-clause-took
returns-in-Ok-clause-took g c = feeds_read c.args.job.now c.in-Ok.listings.items _ _ (rw (c.as_slice.ensures, c.in-Some.ensures.shape) at c.in-Ok.ensures.took)

pub returns-in-Err-Fault-clause-took : goal.returns-in-Err-Fault-clause-took
returns-in-Err-Fault-clause-took g c =
    let stopped = rw (c.in-Err-Fault.field-0-is, c.as_slice.ensures, c.in-Some.ensures.shape) at c.in-Err-Fault.ensures.took in
    feeds_stop c.args.job.now c.in-Err-Fault.fault _ _ _ c.feed_fault.ensures stopped

pub returns-in-Err-NoMemory-clause-took : goal.returns-in-Err-NoMemory-clause-took
returns-in-Err-NoMemory-clause-took g c = feeds_lack c.args.job.now _ _ (rw (c.in-Err-NoMemory.field-0-is, c.as_slice.ensures) at c.in-Err-NoMemory.ensures.took)

pub returns-in-Ok-clause-fit : goal.returns-in-Ok-clause-fit
returns-in-Ok-clause-fit g c = fit_feeds c.args.job.now c.in-Ok.listings.items _ _ c.requires.sound.feeds (rw (c.as_slice.ensures, c.in-Some.ensures.shape) at c.in-Ok.ensures.took)
