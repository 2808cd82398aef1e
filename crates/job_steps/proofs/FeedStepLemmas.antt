-- The feeds of a job as its steps.
use Rattle.std.proofs.Common.{◌≡◌, ℕ, ◌+◌, List, [], ◌∷◌, map, refl, sym, ap, subst}
use Rattle.log_model.specs.declared.fault.Halt.TheVariants.{Fault}
use Rattle.vio.specs.World.{Seen}
use Rattle.vio.specs.Calls.{Called, OnlyOpen}
use Rattle.vio.specs.Steps.{PassedSo, Halted}
use Rattle.vio.proofs.StepLemmas.{passed_as, stopped_as}
use Rattle.traffic_feed.specs.declared.listing.Listing.{Listing}
use Rattle.feed_files.specs.declared.fault.FeedFault.{FeedFault}
use Rattle.feed_files.specs.Feeds.{feeds_from, FeedPasses, FeedStops}
use Rattle.tool_words.specs.declared.job.Job.{Job}
use Rattle.job_steps.specs.declared.fault.ToolFault.{ToolFault}
use Rattle.job_steps.specs.Steps.{ReadFeed, FoundListing, Passes, Stops, feed_answer, feed_steps, opens_of, creates_of}
use Rattle.job_steps.proofs.TookLemmas.{called_so}

-- the feeds open the files that they name, and create nothing
feeds_open : (reclen seg n : ℕ) (names : List (List ℕ)) → opens_of (map (ReadFeed reclen seg) (feeds_from n names)) ≡ names
feeds_open reclen seg n [] = refl
feeds_open reclen seg n (name ∷ names) = ap (λ (rest : List (List ℕ)). name ∷ rest) (feeds_open reclen seg (n + 1) names)

pub feeds_create : (reclen seg n : ℕ) (names : List (List ℕ)) → creates_of (map (ReadFeed reclen seg) (feeds_from n names)) ≡ []
feeds_create reclen seg n [] = refl
feeds_create reclen seg n (name ∷ names) = feeds_create reclen seg (n + 1) names

-- they were read
pub feeds_read : (job : Job) (listings : List Listing) (s t : Seen) → Called (PassedSo (FeedPasses job.reclen job.seg) FeedStops (λ found. found ≡ listings) (feeds_from 0 job.feeds)) s t
    → Called (PassedSo Passes Stops (λ found. found ≡ map FoundListing listings) (feed_steps job)) s t
feeds_read job listings s t p = called_so (λ calls so. record {
  found = map FoundListing so.found;
  is = ap (λ (all : List Listing). map FoundListing all) so.is;
  passed = passed_as (FeedPasses job.reclen job.seg) FeedStops Passes Stops (ReadFeed job.reclen job.seg) FoundListing feed_answer (λ feed listing own is. (listing, refl, is)) (λ feed why own is. (why, is, refl)) (feeds_from 0 job.feeds) so.found calls so.passed;
  fail = so.fail;
}) p

-- one of them stopped the job
pub feeds_stop : (job : Job) (why : FeedFault) (fault : ToolFault) (s t : Seen) → fault ≡ feed_answer why → Called (Halted (FeedPasses job.reclen job.seg) FeedStops job.feeds (feeds_from 0 job.feeds) (Fault why)) s t
    → Called (Halted Passes Stops (opens_of (feed_steps job)) (feed_steps job) (Fault fault)) s t
feeds_stop job why fault s t e p = called_so (λ calls so. subst (λ (f : ToolFault). Halted Passes Stops (opens_of (feed_steps job)) (feed_steps job) (Fault f) calls) (sym e)
    (stopped_as (FeedPasses job.reclen job.seg) FeedStops Passes Stops (ReadFeed job.reclen job.seg) FoundListing feed_answer (λ feed listing own is. (listing, refl, is)) (λ feed why own is. (why, is, refl)) (feeds_from 0 job.feeds) why calls so.0, so.1)) p

-- there was no memory for them
pub feeds_lack : (job : Job) (s t : Seen) → Called (OnlyOpen job.feeds) s t → Called (OnlyOpen (opens_of (feed_steps job))) s t
feeds_lack job s t p = subst (λ (names : List (List ℕ)). Called (OnlyOpen names) s t) (sym (feeds_open job.reclen job.seg 0 job.feeds)) p
