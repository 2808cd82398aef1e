-- Feeds: listings in files. Each is a step: it is opened and read whole before the next is opened, and the first that has a fault stops the steps (the
-- bound, the order and the faults are this project's choice). `seg` is the number of words of a ring's segment, and of a payload at most `reclen` bytes
-- are kept.
use Rattle.std.specs.Prelude.{◌≡◌, ℕ, ◌+◌, ◌/◌, ◌<◌, ◌≤◌, List, [], ◌∷◌, ◌++◌, length, Some}
use Rattle.std.specs.List.{All, AllZip}
use Rattle.log_model.specs.Faults.{HasNewFault}
use Rattle.vio.specs.declared.fault.NamedFault.TheVariants as named
use Rattle.vio.specs.World.{Seen, Opening, Reading}
use Rattle.vio.specs.Calls.{Call}
use Rattle.vio.specs.Steps.{Passed, Stopped}
use Rattle.vio.specs.Named.{IsReadBy, IsRefusedBy}
use Rattle.traffic_feed.specs.declared.listing.Listing.{Listing}
use Rattle.raw_records.specs.Lines.{IsFirstBad}
use Rattle.traffic_feed.specs.Batches.{IsWithin}
use Rattle.traffic_feed.specs.Listing.{IsListing, record_count, word_count}
use Rattle.feed_files.specs.declared.fault.FeedFault.{FeedFault}
use Rattle.feed_files.specs.declared.fault.FeedFault.TheVariants.{NoOpen, ReadFault, TooLarge, BadListing}

-- ---- contents

-- the most bytes of a feed that are read
abbrev pub most_feed_bytes : ℕ
most_feed_bytes = 16777216

-- the bytes of a feed are within the bound, and are this listing
pub record IsFeed (reclen seg : ℕ) (bytes : List ℕ) (listing : Listing) : Type 0 where
  pub within : length bytes ≤ most_feed_bytes
  pub is : IsListing bytes reclen seg listing.units listing.cuts

-- the contents of feeds are these listings, each the one at its place
abbrev pub AreListings : ℕ → ℕ → List (List ℕ) → List Listing → Type 0
AreListings reclen seg contents listings = AllZip (IsFeed reclen seg) contents listings

-- the bytes of a feed, the n-th, have this fault: they are more than are read, or have a bad line. Nothing of such a
-- feed is used, nor of the others: it is likely another file than was meant. Its number tells it, because one name may
-- be given twice
abbrev pub HasBytesFault : ℕ → List ℕ → List ℕ → FeedFault → Type 0
HasBytesFault n name bytes (TooLarge called limit) = (called ≡ name) × (limit ≡ most_feed_bytes) ×
    (most_feed_bytes < length bytes)
HasBytesFault n name bytes (BadListing feed line) = (feed ≡ n) × (length bytes ≤ most_feed_bytes) ×
    IsFirstBad bytes line
HasBytesFault n name bytes fault = ⊥

-- of the contents of feeds of these names one has this fault, and those before it are listings
pub record HasContentFault (reclen seg : ℕ) (names contents : List (List ℕ)) (fault : FeedFault) : Type 0 where
  pub earlier_names : List (List ℕ)
  pub name : List ℕ
  pub later_names : List (List ℕ)
  pub names_are : names ≡ earlier_names ++ name ∷ later_names
  pub earlier : List (List ℕ)
  pub bytes : List ℕ
  pub later : List (List ℕ)
  pub contents_are : contents ≡ earlier ++ bytes ∷ later
  pub place : length earlier ≡ length earlier_names
  pub listings : List Listing
  pub are_listings : AreListings reclen seg earlier listings
  pub stops : HasBytesFault (length earlier) name bytes fault

-- a call on the name of this fault failed, and was counted
abbrev pub CallFailed : FeedFault → Seen → Seen → Type 0
CallFailed (NoOpen name) before now = HasNewFault (before.faults Opening name) (now.faults Opening name)
CallFailed (ReadFault name) before now = HasNewFault (before.faults Reading name) (now.faults Reading name)
CallFailed fault before now = ⊥

-- the world tells what the files of these names hold
abbrev pub FeedsHold : Seen → List (List ℕ) → List (List ℕ) → Type 0
FeedsHold before names contents = AllZip (λ name bytes. before.held name ≡ Some bytes) names contents

-- ---- reading

-- a feed: which it is, in the order of their names from 0, and the name of its file
pub record Feed : Type 0 where
  pub number : ℕ
  pub name : List ℕ

-- feeds of these names, of which the first is the n-th
abbrev pub feeds_from : ℕ → List (List ℕ) → List Feed
feeds_from n [] = []
feeds_from n (name ∷ names) = record { number = n; name = name } ∷ feeds_from (n + 1) names

-- a listing of so many bytes fits in a ring: each unit fits in a segment, and units, records and cuts are few
pub record IsWithinRing (seg size : ℕ) (listing : Listing) : Type 0 where
  pub units : All (IsWithin seg) listing.units
  pub few_words : word_count listing.units ≤ size + 1
  pub few_records : record_count listing.units ≤ (size + 1) / 8
  pub few_cuts : listing.cuts ≤ record_count listing.units

-- a feed was read by these calls: its file was opened and read whole, its bytes are this listing, and it fits in a
-- ring. So `-w` may name a feed's own file: its bytes were read before that is emptied or appended to
pub record FeedPasses (reclen seg : ℕ) (feed : Feed) (listing : Listing) (calls : List Call) : Type 0 where
  pub bytes : List ℕ
  pub read : IsReadBy most_feed_bytes feed.name bytes calls
  pub is : IsListing bytes reclen seg listing.units listing.cuts
  pub fits : IsWithinRing seg (length bytes) listing

-- a feed has this fault, by these calls: its file can't be opened or read, is too large, or was read and has a first bad line
abbrev pub FeedStops : Feed → FeedFault → List Call → Type 0
FeedStops feed (NoOpen name) calls = (name ≡ feed.name) × IsRefusedBy most_feed_bytes feed.name named.NoOpen calls
FeedStops feed (ReadFault name) calls = (name ≡ feed.name) × IsRefusedBy most_feed_bytes feed.name named.Failed calls
FeedStops feed (TooLarge name limit) calls = (name ≡ feed.name) × (limit ≡ most_feed_bytes) ×
    IsRefusedBy most_feed_bytes feed.name named.TooLarge calls
FeedStops feed (BadListing number line) calls = (number ≡ feed.number) × (bytes : List ℕ) ×
    IsReadBy most_feed_bytes feed.name bytes calls × IsFirstBad bytes line

-- feeds of these names were read by these calls, and these are their listings
abbrev pub AreFeedsRead : ℕ → ℕ → List (List ℕ) → List Listing → List Call → Type 0
AreFeedsRead reclen seg names listings calls = Passed (FeedPasses reclen seg) FeedStops
    (feeds_from 0 names) listings calls

-- one of the feeds of these names stopped the reading with this fault, those before it were read, and no call was made behind it
abbrev pub StoppedByFeed : ℕ → ℕ → List (List ℕ) → FeedFault → List Call → Type 0
StoppedByFeed reclen seg names fault calls = Stopped (FeedPasses reclen seg) FeedStops (feeds_from 0 names) fault calls
