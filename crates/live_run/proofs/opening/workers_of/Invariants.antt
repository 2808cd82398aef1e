-- each worker that was made has the last of the passes that were there, and there are passes, and room, for the rest
use Rattle.std.proofs.Common.{◌≡◌, ◌+◌, ◌≤◌, ◌++◌, map, reverse, vec_len, vec_capacity}
use Rattle.traffic_feed.specs.Workers.{listings_of}
use Rattle.live_run.proofs.opening.workers_of.Given as goal

abbrev pub invariant-loop-listing : goal.invariant-loop-listing
invariant-loop-listing l =
    (l.initial.passes.items ≡ l.passes.items ++ reverse (map (λ w. w.pass) l.workers.items))
    × (l.initial.counts.items ≡ l.counts.items ++ reverse (map (λ w. w.counts) l.workers.items))
    × (listings_of l.workers.items ≡ l.yielded)
    × (vec_len l.passes ≡ l.listing-iterator.rest.len) × (vec_len l.counts ≡ l.listing-iterator.rest.len)
    × (vec_len l.workers + l.listing-iterator.rest.len ≤ vec_capacity l.workers)
