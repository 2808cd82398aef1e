-- What was read, and what is made behind it, fits in a ring.
use Rattle.std.proofs.Common.{arith, refl, None}
use Rattle.job_runs.proofs.ReplayLemmas.{put_fit, writers_few, words_few, new_replay}
use Rattle.job_runs.proofs.feeds.items_of.Goals as goal

pub new-requires-2-clause-feeds : goal.new-requires-2-clause-feeds
new-requires-2-clause-feeds c = put_fit c.args.job.now c.in_ok-writers.writers.items c.in-Some.shape c.in-Some.ensures.shape (c.in_ok-writers.ensures.fit c.requires.fit.each)

pub new-requires-2-clause-few : goal.new-requires-2-clause-few
new-requires-2-clause-few c = words_few c.args.job.now.seg c.in_ok-writers.writers.items (c.in_ok-writers.ensures.fit c.requires.fit.each) (writers_few c.args.job.now c.args.listings.items c.in_ok-writers.writers.items c.requires.fit.few c.in_ok-writers.ensures.made)

pub new-requires-2-clause-many : goal.new-requires-2-clause-many
new-requires-2-clause-many c = omega (arith, writers_few c.args.job.now c.args.listings.items c.in_ok-writers.writers.items c.requires.fit.few c.in_ok-writers.ensures.made)

pub returns : goal.returns
returns c = record {
  comes = new_replay c.every_schedule_ends.ensures.ends c.schedules_are_read_whole.ensures.interleaved c.schedules_are_read_whole.ensures.read c.schedules_are_read_whole.ensures.to_the_tail c.args.job.now c.args.listings.items c.in_ok-writers.writers.items
      (record { alloc = c.args.alloc; replay = c.in_ok-replay.replay; missed = None }) refl c.requires.sound.numbers.segment c.in_ok-writers.ensures.made (c.in_ok-writers.ensures.fit c.requires.fit.each) (rw (c.in-Some.ensures.shape, c.order_seed.ensures) at c.in_ok-replay.ensures);
}
