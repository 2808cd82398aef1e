-- What was read, and what is made behind it, fits in a ring; and the text was printed, or not.
use Rattle.job_runs.proofs.ReplayLemmas.{put_fit, words_few, writers_few}
use Rattle.job_runs.proofs.CounterLemmas.{counts_lacked, counts_ran, stated_told}
use Rattle.job_runs.proofs.counters.print_counters.Goals as goal

pub count_feeds-requires-clause-feeds : goal.count_feeds-requires-clause-feeds
count_feeds-requires-clause-feeds g c = put_fit c.args.job.now c.in_ok-listings.listings.items c.in-Some.shape c.in-Some.ensures.shape (c.in_ok-listings.ensures.fit c.requires.fit.each)

pub count_feeds-requires-clause-few : goal.count_feeds-requires-clause-few
count_feeds-requires-clause-few g c = words_few c.args.job.now.seg c.in_ok-listings.listings.items (c.in_ok-listings.ensures.fit c.requires.fit.each) (writers_few c.args.job.now c.args.counting.listings.items c.in_ok-listings.listings.items c.requires.fit.few c.in_ok-listings.ensures.made)

pub returns-clause-ran : goal.returns-clause-ran
returns-clause-ran g c =
    let told = stated_told c.every_writing_ends.ensures.ends c.every_writing_ends.ensures.interleaved c.args.job.now c.args.counting.listings.items c.in_ok-listings.listings.items c.in-Some.shape c.in_ok-values.values c.in_ok-text.text.items c.record_of.result
    c.requires.stated c.in_ok-listings.ensures.made c.in-Some.ensures.shape c.record_of.ensures (rw c.order_seed.ensures at c.in_ok-values.ensures) c.in_ok-text.ensures in
    counts_ran c.args.job.now c.args.counting.listings.items c.in_ok-text.text.items c.args.counting.sink.handle c.record_of.result c.write_text.result _ _ told c.write_text.ensures.run (rw c.deref.ensures.value at c.write_text.ensures.wrote)

pub returns-clause-short : goal.returns-clause-short
returns-clause-short g c =
    let told = stated_told c.every_writing_ends.ensures.ends c.every_writing_ends.ensures.interleaved c.args.job.now c.args.counting.listings.items c.in_ok-listings.listings.items c.in-Some.shape c.in_ok-values.values c.in_ok-text.text.items c.record_of.result
    c.requires.stated c.in_ok-listings.ensures.made c.in-Some.ensures.shape c.record_of.ensures (rw c.order_seed.ensures at c.in_ok-values.ensures) c.in_ok-text.ensures in
    counts_lacked c.args.job.now c.args.counting.listings.items c.in_ok-text.text.items c.args.counting.sink.handle c.record_of.result c.write_text.result _ _ told (rw c.deref.ensures.value at c.write_text.ensures.short)
