use Rattle.std.proofs.Common.{arith}
use Rattle.std.specs.Prelude.{slice_get}
use Rattle.std.proofs.lemmas.List.Sums.{sum_by-take-le}
use Rattle.traffic_feed.specs.Counted.{causes}
use Rattle.traffic_feed.specs.inside.Raises.{raise_at}
use Rattle.traffic_feed.proofs.CountedLemmas.{sum_at_small}
use Rattle.traffic_feed.proofs.shares.raised_by_all.Goals as goal

pub add_raises-requires : goal.add_raises-requires
add_raises-requires c = record {
  low = λ which below. omega (arith, c.loop-i.invariant which below, sum_by-take-le (raise_at (slice_get causes which)) c.args.records.now c.loop-i.i, sum_at_small (slice_get causes which) c.args.records.now, c.requires.few);
}
