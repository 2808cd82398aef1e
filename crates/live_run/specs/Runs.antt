-- What a run over a ring that threads share comes to, once the ring is closed (this project's choice).
use Rattle.std.specs.Prelude.{◌≡◌, ℕ, ◌+◌, ◌*◌, ◌<◌, ◌≤◌, Bool, true, List, [], ◌∷◌, ◌++◌, length, map, slice_get}
use Rattle.std.specs.List.{All, range_with_len}
use Rattle.log_model.specs.Interleaving.{IsInterleaving}
use Rattle.vsl_record.specs.Unit.{LogUnit, Log}
use Rattle.vsl_record.specs.Words.{unit_words}
use Rattle.ring_layout.specs.Places.{last_tail}
use Rattle.ring_layout.specs.declared.history.HistoryItem.{HistoryItem}
use Rattle.ring_layout.specs.declared.item.Item.{Item}
use Rattle.ring_layout.specs.History.{IsReadHistory, ReachesTail, AddUp}
use Rattle.ring_layout.specs.Items.{items_of}
use Rattle.ring_plain.specs.Ring.{count_wraps}
use Rattle.log_ring.specs.Ring.{most_writers}
use Rattle.log_ring.specs.Closed.{ClosedState}
use Rattle.counter_segments.specs.Sums.{counter_count}
use Rattle.traffic_feed.specs.declared.listing.Listing.{Listing}
use Rattle.traffic_feed.specs.Batches.{IsWithin}
use Rattle.traffic_feed.specs.Counted.{causes, counter_value, wait_raise}
use Rattle.traffic_feed.specs.Listing.{record_count}
use Rattle.feed_schedule.specs.Replaying.{count_feed_words}
use Rattle.traffic_feed.specs.Feeding.{most_records, most_waits}

-- the units of listings, list by list
abbrev pub feeds_of : List Listing → List Log
feeds_of listings = map (λ l. l.units) listings

-- workers may put these listings into a ring: there is one at least, and no more than the ring has writers; each unit has room in a segment, and words, records and cuts are so few that
-- neither the ring nor a counter is ever full, so there is no fault for a unit that wasn't put
pub record MayBePut (seg : ℕ) (listings : List Listing) : Type 0 where
  pub some : 0 < length listings
  pub many : length listings ≤ most_writers
  pub within : All (λ l. All (IsWithin seg) l.units) listings
  pub words : 2 * count_feed_words (feeds_of listings) ≤ last_tail
  pub records : All (λ l. record_count l.units ≤ most_records) listings
  pub cuts : All (λ l. l.cuts ≤ record_count l.units) listings

-- ---- what was read

-- these items came of a ring that is closed now and had one reader: its log is an interleaving of the feeds, and the items are all that the reader took of it, in order; where they are all
-- that there is, up to the log's tail. What it took and what it missed add up. Workers run to their end, also where the reader stopped: nobody tells them, and
-- they wait for no reader
pub record LiveCame (seg : ℕ) (feeds : List Log) (closed : ClosedState) (met : List Item) (all : Bool) : Type 0 where
  pub interleaved : IsInterleaving closed.log feeds
  pub history : List (HistoryItem LogUnit)
  pub only : closed.histories ≡ history ∷ []
  pub read : IsReadHistory unit_words seg closed.log history
  pub adds_up : AddUp closed.log history
  pub are : items_of history ≡ met
  pub tail : all ≡ true → ReachesTail closed.log history

-- these items are the first, or all, of what a reader took of a log that is an interleaving of the feeds
pub record LiveBegan (seg : ℕ) (feeds : List Log) (met : List Item) (all : Bool) : Type 0 where
  pub log : Log
  pub interleaved : IsInterleaving log feeds
  pub history : List (HistoryItem LogUnit)
  pub read : IsReadHistory unit_words seg log history
  pub adds_up : AddUp log history
  pub rest : List Item
  pub parts : items_of history ≡ met ++ rest
  pub whole : all ≡ true → (rest ≡ []) × ReachesTail log history

-- ---- what was counted

-- what a counter comes to by listings that were put whole, where writers waited so often and so many units wrapped
abbrev pub live_value : ℕ → List Listing → ℕ → ℕ → ℕ
live_value which listings waits wraps = counter_value which listings wraps + wait_raise (slice_get causes which) waits

-- what the counters come to, in the order of their numbers
abbrev pub live_values : List Listing → ℕ → ℕ → List ℕ
live_values listings waits wraps = map (λ which. live_value which listings waits wraps) (range_with_len 0 counter_count)

-- so many waits are told of those that a closed ring keeps: all, where they are below 2^56, and else at least 2^56. A
-- writer tells no more, and nobody will see as many
pub record AreTold (kept waits : ℕ) : Type 0 where
  pub exact : kept < most_waits → waits ≡ kept
  pub many : most_waits ≤ kept → most_waits ≤ waits
  pub most : waits ≤ kept

-- counters have these values when the ring is closed, of which nobody read: its log is an interleaving of the listings' units, and they count these, the units that wrapped in it, and the
-- waits that are told. One writer alone never waits
pub record LiveCounted (seg : ℕ) (listings : List Listing) (closed : ClosedState) (values : List ℕ) : Type 0 where
  pub interleaved : IsInterleaving closed.log (feeds_of listings)
  pub unread : closed.histories ≡ []
  pub waits : ℕ
  pub told : AreTold closed.busy waits
  pub alone : length listings ≡ 1 → closed.busy ≡ 0
  pub values_are : values ≡ live_values listings waits (count_wraps seg closed.log)
