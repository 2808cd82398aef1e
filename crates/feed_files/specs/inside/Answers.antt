-- How a fault of one step is answered, and what reading one feed comes to.
use Rattle.std.specs.Prelude.{◌≡◌, ℕ, List, [], ◌∷◌, Result}
use Rattle.log_model.specs.declared.fault.Halt.{Halt}
use Rattle.vio.specs.declared.fault.NamedFault.{NamedFault}
use Rattle.vio.specs.declared.fault.NamedFault.TheVariants as named
use Rattle.vio.specs.Calls.{Call}
use Rattle.vio.specs.Steps.{TookSteps}
use Rattle.traffic_feed.specs.declared.listing.Listing.{Listing}
use Rattle.feed_files.specs.declared.fault.FeedFault.{FeedFault}
use Rattle.feed_files.specs.declared.fault.FeedFault.TheVariants.{NoOpen, ReadFault, TooLarge}
use Rattle.feed_files.specs.Feeds.{FeedPasses, FeedStops, feeds_from, most_feed_bytes}

-- how it is answered that the file of this name isn't read whole
abbrev pub file_fault : List ℕ → NamedFault → FeedFault
file_fault name named.NoOpen = NoOpen name
file_fault name named.Failed = ReadFault name
file_fault name named.TooLarge = TooLarge name most_feed_bytes

-- what reading the n-th feed, of this name, comes to
abbrev pub TookFeed : ℕ → ℕ → ℕ → List ℕ → Result Listing (Halt FeedFault) → List Call → Type 0
TookFeed reclen seg n name result calls = TookSteps (FeedPasses reclen seg) FeedStops
    (λ listing found. found ≡ listing ∷ []) (name ∷ []) (feeds_from n (name ∷ [])) result calls
