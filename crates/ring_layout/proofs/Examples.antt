-- Worked examples of places and histories, computed from the definitions.
use Rattle.std.proofs.Common.{◌≡◌, ℕ, List, [], ◌∷◌, length, replicate, refl, ap, arith}
use Rattle.std.proofs.lemmas.List.{same_from_push}
use Rattle.std.specs.Prelude.{◌-◌, ◌+◌, ◌^◌}
use Rattle.ring_layout.specs.declared.history.Run.{Run}
use Rattle.ring_layout.specs.declared.history.HistoryItem.{HistoryItem}
use Rattle.ring_layout.specs.declared.history.HistoryItem.TheVariants.{UnitRun, Overrun}
use Rattle.ring_layout.specs.Places.{start_at, end_at}
use Rattle.ring_layout.specs.History.{next_number, count_taken, count_missed, first_number, ReachesTail}

-- with 64 words a segment, a unit that ends one word before its lap does stays, and one that ends with it wraps
stays_in_its_lap : (start_at 64 447 64 ≡ 447) × (end_at 64 447 64 ≡ 511)
stays_in_its_lap = (refl, refl)

wraps_at_its_lap : (start_at 64 448 64 ≡ 512) × (end_at 64 448 64 ≡ 576)
wraps_at_its_lap = (refl, refl)

-- ten words before the last tail a unit of 4 words stays, and one of 64 would wrap past it
near_the_last_tail : (start_at 64 (2 ^ 62 - 10) 4 ≡ 2 ^ 62 - 10) × (end_at 64 (2 ^ 62 - 10) 4 ≡ 2 ^ 62 - 6) × (end_at 64 (2 ^ 62 - 10) 64 ≡ 2 ^ 62 + 64)
near_the_last_tail = (refl, refl, refl)

-- of a log of two units, named by numbers: a history that ends with the second reaches its tail, and one that ends with the first or with an overrun doesn't
abbrev run : List ℕ → Run ℕ
run units = record { segment = 0; first = 0; missed = 0; units = units }

reaches : ReachesTail (1 ∷ 2 ∷ []) (UnitRun (run (1 ∷ 2 ∷ [])) ∷ [])
reaches = record { before = []; run = run (1 ∷ 2 ∷ []); last = refl; ends = refl }

stops_early : ReachesTail (1 ∷ 2 ∷ []) (UnitRun (run (1 ∷ [])) ∷ []) → ⊥
stops_early h = let same : UnitRun (run (1 ∷ [])) ≡ UnitRun h.run = (same_from_push [] h.before (UnitRun (run (1 ∷ []))) (UnitRun h.run) h.last).1 in let is : run (1 ∷ []) ≡ h.run = cc same in
    let one = ap (λ (r : Run ℕ). r.first + length r.units) is in let ends = h.ends in omega arith

ends_overrun : ReachesTail (1 ∷ 2 ∷ []) (UnitRun (run (1 ∷ 2 ∷ [])) ∷ Overrun 0 6 ∷ []) → ⊥
ends_overrun h = let same : Overrun 0 6 ≡ UnitRun h.run = (same_from_push (UnitRun (run (1 ∷ 2 ∷ [])) ∷ []) h.before (Overrun 0 6) (UnitRun h.run) h.last).1 in cc same

-- a run from a unit on, before which so many were missed
abbrev later : ℕ → ℕ → ℕ → List ℕ → Run ℕ
later segment first missed units = record { segment = segment; first = first; missed = missed; units = units }

-- two units were taken, and then three missed: that the overrun was told twice changes no count
abbrev told_twice : List (HistoryItem ℕ)
told_twice = UnitRun (later 3 5 3 (6 ∷ [])) ∷ Overrun 0 7 ∷ Overrun 0 6 ∷ UnitRun (run (1 ∷ 2 ∷ [])) ∷ []

counts_told_twice : (count_taken told_twice ≡ 3) × (count_missed told_twice ≡ 3) × (next_number told_twice ≡ 6)
counts_told_twice = (refl, refl, refl)

-- a run of no unit between two overruns: what is missed behind it counts from the unit that it would have begun with
abbrev empty_between : List (HistoryItem ℕ)
empty_between = UnitRun (later 9 12 7 (13 ∷ 14 ∷ [])) ∷ Overrun 3 13 ∷ UnitRun (later 3 5 3 []) ∷ Overrun 0 7 ∷ UnitRun (run (1 ∷ 2 ∷ [])) ∷ []

counts_empty_between : (count_taken empty_between ≡ 4) × (count_missed empty_between ≡ 10) × (next_number empty_between ≡ 14)
counts_empty_between = (refl, refl, refl)

-- units of 40 words start at 0, 40, 80 and 120: in segments of 64 words, the first in segment 1 is the third, and segment 2 has none yet
first_of_a_segment : (first_number (replicate 40) 64 (0 ∷ 0 ∷ 0 ∷ 0 ∷ []) 1 ≡ 2) × (first_number (replicate 40) 64 (0 ∷ 0 ∷ 0 ∷ 0 ∷ []) 2 ≡ 4)
first_of_a_segment = (refl, refl)
