-- What was read, and what is made behind it, may be put by workers; and the text was printed, or not.
use Rattle.std.proofs.Common.{refl}
use Rattle.job_runs.specs.declared.record.RunRecord.TheVariants.{Closed}
use Rattle.job_runs.proofs.ReplayLemmas.{may_be_put}
use Rattle.job_runs.proofs.CounterLemmas.{counts_lacked, counts_ran, live_told}
use Rattle.job_runs.proofs.counters.print_live_counters.Goals as goal

pub count_live-requires-clause-put : goal.count_live-requires-clause-put
count_live-requires-clause-put g c κs within = may_be_put c.args.job.now c.args.counting.listings.items c.in_ok-listings.listings.items c.in-Some.shape c.in-Some.ensures.shape c.requires.threads c.requires.fit c.in_ok-listings.ensures.made (c.in_ok-listings.ensures.fit c.requires.fit.each)

pub returns-clause-ran : goal.returns-clause-ran
returns-clause-ran g c =
    let ended = c.in_ok-values.field-0 in
    let told = live_told c.args.job.now c.args.counting.listings.items c.in_ok-listings.listings.items c.in-Some.shape ended.ring ended.values c.in_ok-text.text.items (Closed ended.ring) c.requires.threads c.in_ok-listings.ensures.made c.in-Some.ensures.shape refl c.in_ok-values.ensures c.in_ok-text.ensures in
    counts_ran c.args.job.now c.args.counting.listings.items c.in_ok-text.text.items c.args.counting.sink.handle (Closed ended.ring) c.write_text.result _ _ told c.write_text.ensures.run (rw c.deref.ensures.value at c.write_text.ensures.wrote)

pub returns-clause-short : goal.returns-clause-short
returns-clause-short g c =
    let ended = c.in_ok-values.field-0 in
    let told = live_told c.args.job.now c.args.counting.listings.items c.in_ok-listings.listings.items c.in-Some.shape ended.ring ended.values c.in_ok-text.text.items (Closed ended.ring) c.requires.threads c.in_ok-listings.ensures.made c.in-Some.ensures.shape refl c.in_ok-values.ensures c.in_ok-text.ensures in
    counts_lacked c.args.job.now c.args.counting.listings.items c.in_ok-text.text.items c.args.counting.sink.handle (Closed ended.ring) c.write_text.result _ _ told (rw c.deref.ensures.value at c.write_text.ensures.short)
