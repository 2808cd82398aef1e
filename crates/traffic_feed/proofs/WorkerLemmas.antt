-- The last of the workers.
use Rattle.std.proofs.Common.{ℕ, zero, suc, List, [], ◌∷◌, ◌++◌, length, subst}
use Rattle.std.proofs.lemmas.Option.{same_Some}
use Rattle.log_ring.specs.Ring.{RingSet}
use Rattle.counter_segments.specs.Sums.{CounterSet}
use Rattle.traffic_feed.specs.declared.feeding.Fed.{Fed}
use Rattle.traffic_feed.specs.Feeding.{IsFed, WasAskedEach}
use Rattle.traffic_feed.specs.declared.worker.Worker.{Worker}
use Rattle.traffic_feed.specs.Workers.{MayBegin, AllReady, AllFed, AllAsked, listings_of}

module _ (ring : RingSet) (counters : CounterSet) where
  -- all of them may begin: those before the last, and the last
  pub ready_last : (ws : List Worker) (w : Worker) → AllReady ring counters (ws ++ w ∷ []) → AllReady ring counters ws × MayBegin ring counters w
  ready_last [] w h = (tt, h.0)
  ready_last (x ∷ xs) w h = let r = ready_last xs w h.1 in ((h.0, r.0), r.1)

  -- what those before the last left, and then what the last left
  pub fed_last : (ws : List Worker) (fs : List Fed) (w : Worker) (f : Fed) → AllFed ring counters (listings_of ws) fs → IsFed ring counters w.listing f → AllFed ring counters (listings_of (ws ++ w ∷ [])) (fs ++ f ∷ [])
  fed_last [] [] w f h k = (k, tt)
  fed_last [] (y ∷ ys) w f h k = absurd h
  fed_last (x ∷ xs) [] w f h k = absurd h
  fed_last (x ∷ xs) (y ∷ ys) w f h k = (h.0, fed_last xs ys w f h.1 k)

-- the gate was asked for those before the last, and for the last by its place
pub asked_last : (was_asked : ℕ → ℕ → Type 0) (fs : List Fed) (f : Fed) → AllAsked was_asked fs → WasAskedEach (was_asked (length fs)) f.left.entries f.full → AllAsked was_asked (fs ++ f ∷ [])
asked_last A [] f all last zero g is = subst (λ (x : Fed). WasAskedEach (A 0) x.left.entries x.full) (same_Some _ _ is) last
asked_last A [] f all last (suc n) g is = cc is
asked_last A (x ∷ xs) f all last zero g is = all zero g is
asked_last A (x ∷ xs) f all last (suc n) g is = asked_last (λ (n : ℕ). A (suc n)) xs f (λ n. all (suc n)) last n g is
