-- What was opened for a run: a ring, counters, workers, and room for what they leave; and what they left.
use Rattle.std.specs.Prelude.{◌≡◌, ℕ, ◌<◌, ◌≤◌, List, [], length, map, None, IfSome, vec_len, vec_capacity}
use Rattle.std.specs.List.{AllByRecursion}
use Rattle.counter_segments.specs.Sums.{CounterSet, PassSums}
use Rattle.log_ring.specs.Ring.{RingSet}
use Rattle.log_ring.specs.Writers.{WriterState}
use Rattle.log_ring.specs.Readers.{new_passes}
use Rattle.traffic_feed.specs.declared.listing.Listing.{Listing}
use Rattle.traffic_feed.specs.declared.feeding.Fed.{Fed}
use Rattle.traffic_feed.specs.Workers.{AllReady, AllFed, listings_of}
use Rattle.live_run.specs.declared.opening.Opened.{Opened}
use Rattle.live_run.specs.declared.beside.Work.{Work}

-- the passes to the ring of what workers left
abbrev pub lefts_of : List Fed → List WriterState
lefts_of fed = map (λ f. f.left) fed

-- and those to the counters
abbrev pub counts_of : List Fed → List PassSums
counts_of fed = map (λ f. f.counts) fed

-- all of a run was opened for these listings: the ring has this segment and so many readers, each worker may begin with its listing, and there is room for what they leave
pub record IsOpened (seg readers : ℕ) (listings : List Listing) (opened : Opened) : Type 0 where
  pub seg_is : opened.ring.seg ≡ seg
  pub writers : opened.ring.writers ≡ length listings
  pub passes : opened.counters.passes ≡ length listings
  pub readers_are : opened.readers.items ≡ new_passes opened.ring readers
  pub ready : AllReady opened.ring opened.counters opened.workers.items
  pub listings_are : listings_of opened.workers.items ≡ listings
  pub room : (opened.room.items ≡ []) × (vec_len opened.workers ≤ vec_capacity opened.room)
  pub lefts : (opened.lefts.items ≡ []) × (vec_len opened.workers ≤ vec_capacity opened.lefts)
  pub counts : (opened.counts.items ≡ []) × (vec_len opened.workers ≤ vec_capacity opened.counts)

-- for each unit there was a place
abbrev pub AreWhole : List Fed → Type 0
AreWhole fed = AllByRecursion (λ (f : Fed). f.full ≡ None) fed

-- the workers may be started, with room for what they leave
abbrev pub WorkReady : RingSet → CounterSet → Work → Type 0
WorkReady ring counters work = IfSome work.workers (λ w. AllReady ring counters w.0.items × (w.1.items ≡ []) ×
    (vec_len w.0 ≤ vec_capacity w.1) × (vec_len w.0 < 4294967296))

-- they were started, and left what their listings come to
abbrev pub WorkFed : RingSet → CounterSet → Work → List Fed → Type 0
WorkFed ring counters work fed = IfSome work.workers (λ w. AllFed ring counters (listings_of w.0.items) fed)
