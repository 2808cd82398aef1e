use Rattle.std.proofs.Common.{rules, ◌≡◌, length, ap, ◌∙◌}
use Rattle.std.proofs.lemmas.Result.{IfOk-weaker}
use Rattle.traffic_feed.specs.Counted.{counter_values}
use Rattle.feed_schedule.proofs.CountingLemmas.{few_wraps, wraps_at_end, no_values}
use Rattle.feed_schedule.proofs.counting.count_feeds.Goals as goal

pub returns-then-is_empty : goal.returns-then-is_empty
returns-then-is_empty c =
    let none : length c.args.listings.items ≡ 0 = search rules in
    IfOk-weaker c.no_counts.result _ _ (λ values is log unread. is ∙ no_values c.args.listings.items c.args.shape c.args.seed log none unread) c.no_counts.ensures

pub finish-requires-clause-few : goal.finish-requires-clause-few
finish-requires-clause-few c = let h = c.loop-counting.invariant.written in few_wraps _ _ h.at.in_ring

pub returns : goal.returns
returns c = λ log written.
    let now = c.loop-counting.invariant in
    c.in_ok-values.ensures c.args.listings.items now.tallied ∙ ap (counter_values c.args.listings.items) (wraps_at_end c.args.shape c.args.seed _ _ _ _ _ log now.written (search rules) written)
