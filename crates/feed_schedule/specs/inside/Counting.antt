-- What writers that count what they put have counted between two turns (this project's choice).
use Rattle.std.specs.Prelude.{◌≡◌, ℕ, ◌+◌, ◌*◌, ◌^◌, ◌<◌, List, [], ◌∷◌, ◌++◌, map, length, slice_get, Option, Some, None}
use Rattle.std.specs.List.{AllByRecursion, sum_by}
use Rattle.vsl_record.specs.Unit.{Log}
use Rattle.ring_plain.specs.Ring.{RingState}
use Rattle.counter_segments.specs.Sums.{CounterSet, PassSums, counter_count, own_sum}
use Rattle.traffic_feed.specs.declared.listing.Listing.{Listing}
use Rattle.traffic_feed.specs.Listing.{record_count}
use Rattle.traffic_feed.specs.Counted.{causes, unit_share, cut_raise, listing_share}
use Rattle.feed_schedule.specs.declared.counting.Counting.{Counting}
use Rattle.feed_schedule.specs.Schedule.{count_writers}
use Rattle.feed_schedule.specs.Replaying.{AreAt}
use Rattle.feed_schedule.specs.Unread.{count_turns, put_in, IsUnread}

-- what a writer has still to put, the cuts of its listing, and its pass
pub record Tally : Type 0 where
  pub writer : Option Log
  pub cuts : ℕ
  pub pass : PassSums

-- these three together
abbrev pub tally : Option Log → ℕ → PassSums → Tally
tally w n p = record { writer = w; cuts = n; pass = p }

-- those of all writers
abbrev pub tallies : List (Option Log) → List ℕ → List PassSums → List Tally
tallies [] cuts passes = []
tallies (w ∷ writers) [] passes = []
tallies (w ∷ writers) (n ∷ cuts) [] = []
tallies (w ∷ writers) (n ∷ cuts) (p ∷ passes) = tally w n p ∷ tallies writers cuts passes

-- by how much what a writer has still to put raises a counter, with its cuts, which it counts when it leaves
abbrev pub share_to_come : ℕ → ℕ → Option Log → ℕ
share_to_come which cuts None = 0
share_to_come which cuts (Some units) = sum_by (unit_share which) units + cut_raise (slice_get causes which) cuts

-- what its pass will have added to a counter when it has left
abbrev pub whole_share : ℕ → Tally → ℕ
whole_share which t = own_sum which t.pass + share_to_come which t.cuts t.writer

-- no counter is raised by more than that
abbrev pub most_to_come : ℕ → Option Log → ℕ
most_to_come cuts None = 0
most_to_come cuts (Some units) = 4294967296 * record_count units + cuts

-- a writer's pass is of these counters, and adds less than 2^55 to each
pub record IsSound (counters : CounterSet) (t : Tally) : Type 0 where
  pub ours : t.pass.counters ≡ counters
  pub whole : length t.pass.sums ≡ counter_count
  pub low : (which : ℕ) → which < counter_count → own_sum which t.pass + most_to_come t.cuts t.writer < 2 ^ 55

-- a writer's turn was counted: the pass will have added as much as before
pub record IsCounted (counters : CounterSet) (old new : Tally) : Type 0 where
  pub sound : IsSound counters new
  pub same : (which : ℕ) → which < counter_count → whole_share which new ≡ whole_share which old

-- each pass will have added what its listing raises
pub record AreTallied (counters : CounterSet) (listings : List Listing) (writers : List (Option Log)) (cuts : List ℕ) (passes : List PassSums) : Type 0 where
  pub as_many : length writers ≡ length listings
  pub as_many_cuts : length cuts ≡ length writers
  pub as_many_passes : length passes ≡ length writers
  pub all : counters.passes ≡ length writers
  pub sound : AllByRecursion (IsSound counters) (tallies writers cuts passes)
  pub shares : (which : ℕ) → which < counter_count →
      map (whole_share which) (tallies writers cuts passes) ≡ map (listing_share which) listings

-- writers, so many of which have not left, stand where some turns of feeds lead, in an order: what was put, and then what will be, is the log
pub record HaveWritten (seg : ℕ) (order : Option ℕ) (feeds : List Log) (ring : RingState) (writers : List (Option Log)) (active : ℕ) (drawn : Option ℕ) : Type 0 where
  pub seg_is : ring.seg ≡ seg
  pub counted : active ≡ count_writers writers
  pub log : Log
  pub at : AreAt ring writers log
  pub whole : IsUnread order feeds (log ++ put_in (count_turns writers) drawn writers)

-- so does what counts them
abbrev pub HasWritten : ℕ → Option ℕ → List Log → Counting → Type 0
HasWritten seg order feeds c = HaveWritten seg order feeds c.ring c.writers.items c.active c.turns

-- what they put is counted by their passes
abbrev pub HasTallied : List Listing → Counting → Type 0
HasTallied listings c = AreTallied c.counters listings c.writers.items c.cuts.items c.passes.items
