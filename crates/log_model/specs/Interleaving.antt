-- Interleavings of lists (this project's choice).
use Rattle.std.specs.Prelude.{◌≡◌, ℕ, ◌<◌, ◌==◌, if◌then◌else◌, List, [], ◌∷◌, length, Some, slice_get, slice_index}

-- the elements of a log that are given to list number i, where the owners are the numbers of their lists
abbrev pub given_to : {A : Type 0} → ℕ → List ℕ → List A → List A
given_to i [] log = []
given_to i (owner ∷ owners) [] = []
given_to i (owner ∷ owners) (x ∷ log) = if owner == i then x ∷ given_to i owners log else given_to i owners log

-- each element of the log can be given to one list so that the elements given to each list are that list, whole and in its order
pub record IsInterleaving {A : Type 0} (log : List A) (lists : List (List A)) : Type 0 where
  pub owners : List ℕ
  pub one_each : length owners ≡ length log
  pub are_lists : (i : ℕ) → i < length owners → slice_index owners i < length lists
  pub whole : (i : ℕ) → i < length lists → slice_get lists i ≡ Some (given_to i owners log)
