-- What a cursor copies of a ring's words (this project's choice).
use Rattle.std.specs.Prelude.{◌≡◌, ◌⊎◌, ℕ, ◌<◌, ◌≤◌, false, List, [], ◌∷◌, length, take, slice_get, Some}
use Rattle.ring_layout.specs.Places.{stays, tail, end_mark, wrap_mark}
use Rattle.ring_layout.specs.History.{UnitStarts}

module _ {U : Type 0} (words : U → List ℕ) (seg : ℕ) where
  -- the k-th unit is due at this place: the tail of those before it, or its start
  abbrev pub IsDueAt : List U → ℕ → ℕ → Type 0
  IsDueAt log k p = (k ≤ length log) × ((p ≡ tail words seg (take k log)) ⊎ UnitStarts words seg log k p)

  -- these words were copied from a place on at which the k-th unit is due: the end mark, the wrap mark, or first words of the unit
  abbrev pub AreCopied : List U → ℕ → ℕ → List ℕ → Type 0
  AreCopied log p k xs =
      ((xs ≡ end_mark ∷ []) × (k ≤ length log) × (p ≡ tail words seg (take k log)))
      ⊎ ((xs ≡ wrap_mark ∷ []) ×
      ((u : U) × (slice_get log k ≡ Some u) × (p ≡ tail words seg (take k log)) ×
      (stays seg p (length (words u)) ≡ false)))
      ⊎ ((0 < length xs) × UnitStarts words seg log k p ×
      ((u : U) → slice_get log k ≡ Some u → xs ≡ take (length xs) (words u)))
