use Rattle.std.proofs.Common.{◌≡◌, ℕ, ◌+◌, List, [], ◌∷◌, slice_get, refl, arith}
use Rattle.std.specs.List.{sum_by}
use Rattle.std.proofs.lemmas.List.Sums.{sum_by-cons}
use Rattle.vsl_record.specs.Unit.{LogUnit}
use Rattle.traffic_feed.specs.declared.listing.Listing.{Listing}
use Rattle.traffic_feed.specs.Counted.{causes, cut_raise, unit_share}
use Rattle.live_run.specs.Runs.{feeds_of}
use Rattle.live_run.proofs.ListLemmas.{interleaving_sum}
use Rattle.live_run.proofs.laws.counts_are_of_the_log.Goals as goal

-- a sum over listings, of their units and of their cuts, is one of the feeds and one of the cuts
parts_sum : (f : LogUnit → ℕ) (g : ℕ → ℕ) (ls : List Listing)
    → sum_by (λ (l : Listing). sum_by f l.units + g l.cuts) ls ≡ sum_by (sum_by f) (feeds_of ls) + sum_by (λ (l : Listing). g l.cuts) ls
parts_sum f g [] = refl
parts_sum f g (l ∷ ls) =
    omega (arith, parts_sum f g ls, sum_by-cons (λ (l : Listing). sum_by f l.units + g l.cuts) l ls, sum_by-cons (sum_by f) l.units (feeds_of ls), sum_by-cons (λ (l : Listing). g l.cuts) l ls)

pub returns : goal.returns
returns c = λ listings log which waits wraps is.
    omega (arith, parts_sum (unit_share which) (cut_raise (slice_get causes which)) listings, interleaving_sum (unit_share which) log (feeds_of listings) is)
