-- Places where no node stands, and what is written at a place.
use Rattle.std.specs.Prelude.{◌≡◌, ◌≢◌, ℕ, ◌≤◌, List, [], ◌∷◌, length, ⊤, false, Some, slice_get}
use Rattle.txn_groups.specs.declared.node.Node.{Node}
use Rattle.txn_groups.specs.inside.Nodes.{IsIn, StandsAt}

-- no place comes twice
abbrev pub AreOnce : List ℕ → Type 0
AreOnce [] = ⊤
AreOnce (at ∷ free) = (IsIn free at → ⊥) × AreOnce free

-- there is a node at a place, and it stands for nothing
pub record IsFree (nodes : List Node) (at : ℕ) : Type 0 where
  pub node : Node
  pub here : slice_get nodes at ≡ Some node
  pub none : node.stands ≡ false

-- places are free, and each comes once
pub record AreFree (nodes : List Node) (free : List ℕ) : Type 0 where
  pub each : (at : ℕ) → IsIn free at → IsFree nodes at
  pub once : AreOnce free

-- a place is free, and is not among the other free ones; it may be the next behind all
pub record IsFreePlace (nodes : List Node) (free : List ℕ) (at : ℕ) : Type 0 where
  pub within : at ≤ length nodes
  pub none : (x : Node) → StandsAt nodes at x → ⊥
  pub left : AreFree nodes free
  pub apart : IsIn free at → ⊥

-- a node was written at a place
pub record IsPut (old new : List Node) (at : ℕ) (x : Node) : Type 0 where
  pub here : slice_get new at ≡ Some x
  pub others : (i : ℕ) → i ≢ at → slice_get new i ≡ slice_get old i
