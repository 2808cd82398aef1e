use Rattle.std.proofs.Common.{ℕ, subst}
use Rattle.std.proofs.lemmas.Option.{same_Some}
use Rattle.traffic_feed.specs.Feeding.{IsFullAt}
use Rattle.traffic_feed.proofs.FeedingLemmas.{counted_low, full_at, same_put}
use Rattle.traffic_feed.proofs.feeding.put_all.Goals as goal

pub put_counted-requires-clause-low : goal.put_counted-requires-clause-low
put_counted-requires-clause-low g c = λ which l. counted_low _ _ _ _ _ which _ _ c.loop-at.invariant.put c.requires.within c.requires.few l

pub returns-in-Err-clause-stopped : goal.returns-in-Err-clause-stopped
returns-in-Err-clause-stopped g c =
    let before = c.loop-at.invariant.put in
    let e = c.in-Err.ensures in record {
      n = c.loop-at.at;
      has_put = same_put _ _ _ _ _ _ _ _ _ _ _ before e.full e.kept;
      all = λ none. cc none;
      next = λ tail is. subst (λ (t : ℕ). IsFullAt c.args.ring.now.seg t c.args.units.now c.put_counted.new.pass) (same_Some _ _ is) (full_at _ _ _ _ _ _ _ _ _ _ before c.loop-at-test.true c.index-units-at.is e.full);
    }
