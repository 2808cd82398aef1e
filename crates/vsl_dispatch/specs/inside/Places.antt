-- Entries of which those below a place were gone through.
use Rattle.std.specs.Prelude.{◌≡◌, ◌<◌, ◌≤◌, ℕ, Bool, List, length, slice_get, Some}
use Rattle.vsl_dispatch.specs.declared.entry.Entry.{Entry}

-- the entries below a place were changed so, each with what stands at its place in a list, and the others are as they were
pub record IsHandedBelow {C : Type 0} (R : Bool → Entry C → Entry C → Type 0) (place : ℕ) (holds : List Bool) (before now : List (Entry C)) : Type 0 where
  pub length : length now ≡ length before
  pub below : (k : ℕ) (b : Bool) (old new : Entry C) → k < place → slice_get holds k ≡ Some b →
      slice_get before k ≡ Some old → slice_get now k ≡ Some new → R b old new
  pub others : (k : ℕ) → place ≤ k → slice_get now k ≡ slice_get before k

-- the same with nothing at the places
pub record IsFinishedBelow {C : Type 0} (R : Entry C → Entry C → Type 0) (place : ℕ) (before now : List (Entry C)) : Type 0 where
  pub length : length now ≡ length before
  pub below : (k : ℕ) (old new : Entry C) → k < place → slice_get before k ≡ Some old → slice_get now k ≡ Some new →
      R old new
  pub others : (k : ℕ) → place ≤ k → slice_get now k ≡ slice_get before k
