-- The passes of a ring that was opened, as callers hold them.
use Rattle.std.proofs.Common.{◌≡◌, ℕ, List, [], ◌∷◌, ◌++◌, map, sym, refl, subst}
use Rattle.std.specs.List.{AllByRecursion}
use Rattle.log_ring.specs.Ring.{RingSet}
use Rattle.log_ring.specs.Writers.{WriterState, new_writer, new_writers, AreWritersOf}
use Rattle.log_ring.specs.Readers.{ReaderState, new_pass, new_passes, AreReadersOf}

all_map : {X : Type 0} (P : X → Type 0) (f : ℕ → X) (xs : List ℕ) → ((k : ℕ) → P (f k)) → AllByRecursion P (map f xs)
all_map P f [] h = tt
all_map P f (x ∷ xs) h = (h x, all_map P f xs h)

pub are_writers : (ring : RingSet) (ws : List WriterState) (n : ℕ) → ws ≡ new_writers ring n → AreWritersOf ring ws
are_writers ring ws n is = subst (AreWritersOf ring) (sym is) (all_map (λ (w : WriterState). w.ring ≡ ring) (new_writer ring) _ (λ k. refl))

pub are_readers : (ring : RingSet) (rs : List ReaderState) (n : ℕ) → rs ≡ new_passes ring n → AreReadersOf ring rs
are_readers ring rs n is = subst (AreReadersOf ring) (sym is) (all_map (λ (r : ReaderState). r.ring ≡ ring) (λ (k : ℕ). new_pass ring) _ (λ k. refl))

-- what is so of all is so of those before the last, and of the last
pub all_before : {X : Type 0} (P : X → Type 0) (xs : List X) (x : X) → AllByRecursion P (xs ++ x ∷ []) → AllByRecursion P xs × P x
all_before P [] x all = (tt, all.0)
all_before P (y ∷ ys) x all = let rest = all_before P ys x all.1 in ((all.0, rest.0), rest.1)

pub last_writer : (ring : RingSet) (whole rest : List WriterState) (w : WriterState) → AreWritersOf ring whole → whole ≡ rest ++ w ∷ [] → AreWritersOf ring rest × (w.ring ≡ ring)
last_writer ring whole rest w all is = all_before (λ (v : WriterState). v.ring ≡ ring) rest w (subst (AreWritersOf ring) is all)

pub last_reader : (ring : RingSet) (whole rest : List ReaderState) (r : ReaderState) → AreReadersOf ring whole → whole ≡ rest ++ r ∷ [] → AreReadersOf ring rest × (r.ring ≡ ring)
last_reader ring whole rest r all is = all_before (λ (q : ReaderState). q.ring ≡ ring) rest r (subst (AreReadersOf ring) is all)
