-- Feeds that were read fit in the ring of a job.
use Rattle.std.proofs.Common.{◌≡◌, ℕ, ◌+◌, ◌≤◌, List, [], ◌∷◌, length, subst, arith}
use Rattle.std.specs.List.{All}
use Rattle.std.proofs.lemmas.List.Elements.{All-cons}
use Rattle.vio.specs.World.{Seen}
use Rattle.vio.specs.Calls.{Call, Called}
use Rattle.vio.specs.Steps.{Passed, PassedSo}
use Rattle.traffic_feed.specs.declared.listing.Listing.{Listing}
use Rattle.feed_files.specs.Feeds.{Feed, feeds_from, FeedPasses, FeedStops}
use Rattle.tool_words.specs.declared.job.Job.{Job}
use Rattle.job_steps.specs.Fits.{FitsRing, HasFitFeeds}

feed_fits : (reclen seg : ℕ) (feed : Feed) (l : Listing) (calls : List Call) → FeedPasses reclen seg feed l calls → FitsRing seg l
feed_fits reclen seg feed l calls p = record {
  units = p.fits.units;
  few_words = omega (arith, p.fits.few_words, p.read.2);
  few_records = omega (arith, p.fits.few_records, p.read.2);
  few_cuts = p.fits.few_cuts;
}

feeds_fit : (reclen seg n : ℕ) (names : List (List ℕ)) (listings : List Listing) (calls : List Call) → Passed (FeedPasses reclen seg) FeedStops (feeds_from n names) listings calls → All (FitsRing seg) listings
feeds_fit reclen seg n [] [] calls p = λ k d inside. absurd (omega (arith, inside))
feeds_fit reclen seg n [] (l ∷ listings) calls p = absurd p
feeds_fit reclen seg n (name ∷ names) [] calls p = absurd p
feeds_fit reclen seg n (name ∷ names) (l ∷ listings) calls p = All-cons (FitsRing seg) l listings (feed_fits reclen seg (record { number = n; name = name }) l p.0 p.3) (feeds_fit reclen seg (n + 1) names listings p.1 p.4)

feeds_count : (reclen seg n : ℕ) (names : List (List ℕ)) (listings : List Listing) (calls : List Call) → Passed (FeedPasses reclen seg) FeedStops (feeds_from n names) listings calls → length listings ≡ length names
feeds_count reclen seg n [] [] calls p = omega arith
feeds_count reclen seg n [] (l ∷ listings) calls p = absurd p
feeds_count reclen seg n (name ∷ names) [] calls p = absurd p
feeds_count reclen seg n (name ∷ names) (l ∷ listings) calls p = let more = feeds_count reclen seg (n + 1) names listings p.1 p.4 in omega (arith, more)

pub fit_feeds : (job : Job) (listings : List Listing) (s t : Seen) → length job.feeds ≤ 16 → Called (PassedSo (FeedPasses job.reclen job.seg) FeedStops (λ found. found ≡ listings) (feeds_from 0 job.feeds)) s t → HasFitFeeds job listings
fit_feeds job listings s t few p =
    let so = p.is in let count = feeds_count job.reclen job.seg 0 job.feeds so.found p.calls so.passed in
    subst (λ (all : List Listing). HasFitFeeds job all) so.is (record { each = feeds_fit job.reclen job.seg 0 job.feeds so.found p.calls so.passed; all = count; few = omega (arith, few, count) })
