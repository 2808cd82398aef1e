-- Listings that fit in the ring of a job (this project's choice).
use Rattle.std.specs.Prelude.{◌≡◌, ℕ, ◌≤◌, List, length}
use Rattle.std.specs.List.{All}
use Rattle.traffic_feed.specs.declared.listing.Listing.{Listing}
use Rattle.feed_files.specs.Feeds.{IsWithinRing}
use Rattle.tool_words.specs.declared.job.Job.{Job}
use Rattle.job_steps.specs.declared.steps.Input.{Input}
use Rattle.job_steps.specs.declared.steps.Input.TheVariants as inputs

-- a listing fits in a ring, with at most as many words and records as a feed of this size has
abbrev pub FitsRing : ℕ → Listing → Type 0
FitsRing seg listing = IsWithinRing seg 33554432 listing

-- the listings of a job's feeds fit in its ring, are one a feed, and are sixteen at most
pub record HasFitFeeds (job : Job) (listings : List Listing) : Type 0 where
  pub each : All (FitsRing job.seg) listings
  pub all : length listings ≡ length job.feeds
  pub few : length listings ≤ 16

-- those of what a job takes its units from
abbrev pub HasFitInput : Job → Input → Type 0
HasFitInput job (inputs.Log handle) = Unit {0}
HasFitInput job (inputs.Feeds listings) = HasFitFeeds job listings.items
