-- what was taken out is parted, and there is room for the rest
use Rattle.std.proofs.Common.{◌≡◌, ◌+◌, ◌≤◌, vec_len, vec_capacity}
use Rattle.live_run.specs.inside.Opening.{lefts_of, counts_of}
use Rattle.live_run.proofs.closing.part.Given as goal

abbrev pub invariant-loop-one : goal.invariant-loop-one
invariant-loop-one l =
    (l.lefts.items ≡ lefts_of l.yielded) × (l.counts.items ≡ counts_of l.yielded)
    × (vec_len l.lefts + l.one-iterator.rest.len ≤ vec_capacity l.lefts) × (vec_len l.counts + l.one-iterator.rest.len ≤ vec_capacity l.counts)
