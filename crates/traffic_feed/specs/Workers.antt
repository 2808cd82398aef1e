-- Workers, and what they leave (this project's choice).
use Rattle.std.specs.Prelude.{◌≡◌, ⊤, ℕ, List, [], ◌∷◌, map, slice_get, Some}
use Rattle.log_ring.specs.Ring.{RingSet}
use Rattle.counter_segments.specs.Sums.{CounterSet}
use Rattle.traffic_feed.specs.declared.listing.Listing.{Listing}
use Rattle.traffic_feed.specs.declared.feeding.Fed.{Fed}
use Rattle.traffic_feed.specs.Feeding.{IsReady, IsFed, WasAskedEach}
use Rattle.traffic_feed.specs.declared.worker.Worker.{Worker}

-- a worker may begin
abbrev pub MayBegin : RingSet → CounterSet → Worker → Type 0
MayBegin ring counters w = IsReady ring counters w.pass w.counts w.listing

-- all of them may begin
abbrev pub AllReady : RingSet → CounterSet → List Worker → Type 0
AllReady ring counters [] = ⊤
AllReady ring counters (w ∷ ws) = MayBegin ring counters w × AllReady ring counters ws

-- what workers put, in their order
abbrev pub listings_of : List Worker → List Listing
listings_of workers = map (λ w. w.listing) workers

-- each worker left what its listing comes to, in their order
abbrev pub AllFed : RingSet → CounterSet → List Listing → List Fed → Type 0
AllFed ring counters [] [] = ⊤
AllFed ring counters [] (f ∷ fs) = ⊥
AllFed ring counters (l ∷ ls) [] = ⊥
AllFed ring counters (l ∷ ls) (f ∷ fs) = IsFed ring counters l f × AllFed ring counters ls fs

-- a gate was asked before each put of each worker, whose number is its place
abbrev pub AllAsked : (ℕ → ℕ → Type 0) → List Fed → Type 0
AllAsked was_asked fed = (place : ℕ) (f : Fed) → slice_get fed place ≡ Some f →
    WasAskedEach (was_asked place) f.left.entries f.full
