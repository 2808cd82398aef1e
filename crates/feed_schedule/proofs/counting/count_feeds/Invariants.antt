use Rattle.std.proofs.Common.{map}
use Rattle.traffic_feed.specs.declared.listing.Listing.{Listing}
use Rattle.feed_schedule.specs.Unread.{count_turns}
use Rattle.feed_schedule.specs.inside.Counting.{HasWritten, HasTallied}
use Rattle.feed_schedule.proofs.counting.count_feeds.Given as goal

-- some turns were had, and were counted
abbrev pub invariant-loop-counting : goal.invariant-loop-counting
invariant-loop-counting l = record {
  written : HasWritten l.fn.shape l.fn.seed (map (λ (x : Listing). x.units) l.fn.listings.items) l.counting;
  tallied : HasTallied l.fn.listings.items l.counting;
}

abbrev pub decreases-loop-counting : goal.decreases-loop-counting
decreases-loop-counting l = count_turns l.counting.writers.items
