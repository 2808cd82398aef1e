-- A tree of nodes that leaves.
use Rattle.std.specs.Prelude.{◌≡◌, ◌≢◌, ℕ, List, Some}
use Rattle.txn_rows.specs.declared.rows.Row.{Row}
use Rattle.txn_rows.specs.Trees.{row_of}
use Rattle.txn_groups.specs.declared.node.Node.{Node}
use Rattle.txn_groups.specs.inside.Nodes.{StandsAt, HasKin}

-- a node that stands is one that stood, with other links to those of its VXID
pub record IsRelinked (old : List Node) (at : ℕ) (y : Node) : Type 0 where
  pub node : Node
  pub there : StandsAt old at node
  pub is : y ≡ record node { older = y.older; newer = y.newer }

-- a node that stood stands, with other links to those of its VXID
pub record Remains (new : List Node) (at : ℕ) (x : Node) : Type 0 where
  pub node : Node
  pub there : StandsAt new at node
  pub is : node ≡ record x { older = node.older; newer = node.newer }

-- the nodes of a tree stand no more, and all others do
pub record AreLeft (old new : List Node) (rows : List Row) (root : ℕ) : Type 0 where
  pub gone : (at : ℕ) (x : Node) (row : Row) → StandsAt old at x → row_of x.serial rows ≡ Some row → row.root ≡ root →
      (y : Node) → StandsAt new at y → ⊥
  pub remain : (at : ℕ) (x : Node) (row : Row) → StandsAt old at x → row_of x.serial rows ≡ Some row → row.root ≢ root →
      Remains new at x
  pub were : (at : ℕ) (y : Node) → StandsAt new at y → IsRelinked old at y
  pub kin : (at : ℕ) (y : Node) → StandsAt new at y → HasKin new y
