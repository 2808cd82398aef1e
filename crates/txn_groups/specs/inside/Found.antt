-- What a walk up finds.
use Rattle.std.specs.Prelude.{◌≡◌, ℕ, List, Some}
use Rattle.txn_rows.specs.declared.rows.Row.{Row}
use Rattle.txn_rows.specs.Trees.{row_of}
use Rattle.txn_groups.specs.declared.node.Node.{Node}
use Rattle.txn_groups.specs.inside.Nodes.{StandsAt}

-- a node of the same tree
pub record IsInTreeOf (nodes : List Node) (rows : List Row) (at other : ℕ) : Type 0 where
  pub node : Node
  pub there : StandsAt nodes at node
  pub row : Row
  pub found : row_of node.serial rows ≡ Some row
  pub other_node : Node
  pub other_there : StandsAt nodes other other_node
  pub other_row : Row
  pub other_found : row_of other_node.serial rows ≡ Some other_row
  pub same : row.root ≡ other_row.root

-- the last node of the tree of another
pub record IsLastOf (nodes : List Node) (rows : List Row) (at last : ℕ) : Type 0 where
  pub tree : IsInTreeOf nodes rows at last
  pub ends : tree.other_node.up ≡ last
