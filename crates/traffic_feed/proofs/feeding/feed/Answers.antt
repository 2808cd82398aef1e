use Rattle.std.proofs.Common.{◌≤◌, sym, ap, subst, ◌∙◌, arith}
use Rattle.std.specs.List.{All}
use Rattle.vsl_record.specs.Unit.{Log}
use Rattle.traffic_feed.specs.Batches.{IsWithin}
use Rattle.traffic_feed.specs.Listing.{record_count}
use Rattle.traffic_feed.specs.Feeding.{most_records, wraps_of}
use Rattle.traffic_feed.proofs.FeedingLemmas.{counted_none, few_wraps, fed}
use Rattle.traffic_feed.proofs.feeding.feed.Goals as goal

pub count_cuts-requires-clause-low : goal.count_cuts-requires-clause-low
count_cuts-requires-clause-low g c =
    let none = counted_none _ _ _ _ _ 18 _ _ c.put_all-busy.ensures.stopped.has_put (omega arith) (omega arith) in
    let cuts = c.requires.cuts in
    let records = c.requires.few in
    omega arith

pub count_waits-requires-clause-low : goal.count_waits-requires-clause-low
count_waits-requires-clause-low g c =
    let none = counted_none _ _ _ _ _ 19 _ _ c.put_all-busy.ensures.stopped.has_put (omega arith) (omega arith) in
    let cut = c.count_cuts.ensures.counted 19 (omega arith) in
    let most = c.put_all-busy.ensures.stopped.has_put.most in
    omega arith

pub count_wraps-requires-clause-low : goal.count_wraps-requires-clause-low
count_wraps-requires-clause-low g c =
    let within = subst (All (IsWithin c.args.ring.now.seg)) (sym c.as_slice.ensures) c.requires.within in
    let few = subst (λ (us : Log). record_count us ≤ most_records) (sym c.as_slice.ensures) c.requires.few in
    let stopped = c.put_all-busy.ensures.stopped in
    let none = counted_none _ _ _ _ _ 20 _ _ stopped.has_put (omega arith) (omega arith) in
    let cut = c.count_cuts.ensures.counted 20 (omega arith) in
    let waited = c.count_waits.ensures.counted 20 (omega arith) in
    let low = few_wraps _ _ _ _ _ _ _ stopped.has_put within few in
    let wraps = c.wraps.ensures ∙ ap wraps_of c.leave-left.ensures in
    omega arith

pub returns-clause-fed : goal.returns-clause-fed
returns-clause-fed g c =
    fed _ _ _ _ _ _ _ _ _ _ _ _ _ c.as_slice.ensures c.put_all-busy.ensures.stopped c.leave-left.ensures c.wraps.ensures c.count_cuts.ensures.same c.count_waits.ensures.same c.count_wraps.ensures.same
    c.count_cuts.ensures.counted c.count_waits.ensures.counted c.count_wraps.ensures.counted
