-- A tree of nodes that is joined to a parent.
use Rattle.std.specs.Prelude.{◌≡◌, ℕ, ◌+◌, ◌≤◌, ◌==◌, ◌&&◌, ◌⊎◌, if◌then◌else◌, Bool, false, List, Option, Some, None, is_none, slice_get}
use Rattle.std.specs.Option.{option_map}
use Rattle.txn_rows.specs.declared.rows.Row.{Row}
use Rattle.txn_rows.specs.declared.join.Join.{Join}
use Rattle.txn_rows.specs.Trees.{row_of}
use Rattle.txn_groups.specs.declared.link.Linking.{Linking}
use Rattle.txn_groups.specs.declared.node.Node.{Node}
use Rattle.txn_groups.specs.inside.Nodes.{StandsAt}

-- whether a place is that, where there is one
abbrev pub is_place : Option ℕ → ℕ → Bool
is_place None at = false
is_place (Some place) at = place == at

-- a node after the join
abbrev pub linked_node : Linking → ℕ → Node → Node
linked_node l at x = record x {
  parent = if at == l.below then Some l.link else x.parent;
  children = if at == l.above then x.children + 1 else x.children;
  first = if (at == l.above) && is_none l.elder then Some l.below else x.first;
  last = if at == l.above then Some l.below else x.last;
  next = if is_place l.elder at then Some l.below else x.next;
  up = if at == l.light then l.heavy else x.up;
  size = if at == l.heavy then l.size else x.size;
  unended = if at == l.heavy then l.unended else x.unended;
  top = if at == l.heavy then l.top else x.top;
}

-- all nodes after the join
abbrev pub AreLinked : Linking → List Node → List Node → Type 0
AreLinked l old new = (at : ℕ) → slice_get new at ≡ option_map (linked_node l at) (slice_get old at)

-- the same, where the join tells how many children the parent has from then on
abbrev pub joined_node : Linking → ℕ → Node → Node
joined_node l at x = record (linked_node l at x) { children = if at == l.above then l.children else x.children }

-- the nodes are those after the join
abbrev pub AreJoined : Linking → List Node → List Node → Type 0
AreJoined l old new = (at : ℕ) → slice_get new at ≡ option_map (joined_node l at) (slice_get old at)

-- a node and its row
pub record NodeAt (nodes : List Node) (rows : List Row) (at : ℕ) : Type 0 where
  pub node : Node
  pub there : StandsAt nodes at node
  pub row : Row
  pub found : row_of node.serial rows ≡ Some row

-- the last nodes of two trees that join: one is the child's, and the other the parent's
abbrev pub AreEnds : ℕ → ℕ → ℕ → ℕ → Type 0
AreEnds light heavy child parent = ((light ≡ child) × (heavy ≡ parent)) ⊎ ((light ≡ parent) × (heavy ≡ child))

-- a child without a parent may be linked to a parent of another tree, as a join of rows says
pub record CanLink (nodes : List Node) (rows : List Row) (l : Linking) (join : Join) : Type 0 where
  pub child : NodeAt nodes rows l.below
  pub parent : NodeAt nodes rows l.above
  pub light : NodeAt nodes rows l.light
  pub heavy : NodeAt nodes rows l.heavy
  pub top : NodeAt nodes rows l.top
  -- the join of their rows
  pub alone : child.node.parent ≡ None
  pub child_is : join.child ≡ child.node.serial
  pub link_is : join.link ≡ record {
    serial = parent.node.serial;
    vxid = parent.node.vxid;
    number = parent.node.children;
  }
  pub link : l.link ≡ join.link
  pub root_is : join.root ≡ parent.row.root
  pub path_is : join.path ≡ parent.row.path
  pub children : l.children ≡ parent.node.children + 1
  pub elder : l.elder ≡ parent.node.last
  -- the trees differ, and their last nodes are these
  pub apart : (parent.row.root == child.node.serial) ≡ false
  pub ends : AreEnds light.row.root heavy.row.root child.node.serial parent.row.root
  pub light_last : light.node.up ≡ l.light
  pub heavy_last : heavy.node.up ≡ l.heavy
  pub lighter : light.node.size ≤ heavy.node.size
  pub size : l.size ≡ heavy.node.size + light.node.size
  pub unended : l.unended ≡ heavy.node.unended + light.node.unended
  pub top_is : top.node.serial ≡ parent.row.root
