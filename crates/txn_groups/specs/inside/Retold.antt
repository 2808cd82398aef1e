-- Nodes that tell other things of their transactions, and lead where they led.
use Rattle.std.specs.Prelude.{◌≡◌, ℕ, ◌==◌, ◌&&◌, not, List, map, Some, count_by, slice_get}
use Rattle.std.specs.Option.{option_map}
use Rattle.txn_rows.specs.declared.rows.Row.{Row}
use Rattle.txn_rows.specs.Trees.{row_of}
use Rattle.txn_groups.specs.declared.node.Node.{Node}
use Rattle.txn_groups.specs.inside.Nodes.{StandsAt, row_of_node}

-- a change of nodes by their places
abbrev pub AreChanged : (ℕ → Node → Node) → List Node → List Node → Type 0
AreChanged change old new = (at : ℕ) → slice_get new at ≡ option_map (change at) (slice_get old at)

-- a change that keeps where each node leads
pub record KeepsLinks (change : ℕ → Node → Node) : Type 0 where
  pub stands : (at : ℕ) (x : Node) → (change at x).stands ≡ x.stands
  pub serial : (at : ℕ) (x : Node) → (change at x).serial ≡ x.serial
  pub vxid : (at : ℕ) (x : Node) → (change at x).vxid ≡ x.vxid
  pub parent : (at : ℕ) (x : Node) → (change at x).parent ≡ x.parent
  pub children : (at : ℕ) (x : Node) → (change at x).children ≡ x.children
  pub first : (at : ℕ) (x : Node) → (change at x).first ≡ x.first
  pub last : (at : ℕ) (x : Node) → (change at x).last ≡ x.last
  pub next : (at : ℕ) (x : Node) → (change at x).next ≡ x.next
  pub up : (at : ℕ) (x : Node) → (change at x).up ≡ x.up
  pub size : (at : ℕ) (x : Node) → (change at x).size ≡ x.size
  pub top : (at : ℕ) (x : Node) → (change at x).top ≡ x.top
  pub older : (at : ℕ) (x : Node) → (change at x).older ≡ x.older
  pub newer : (at : ℕ) (x : Node) → (change at x).newer ≡ x.newer

-- a change of nodes is that of their rows, and the last nodes tell how many rows of their trees have not ended
pub record Retells (change : ℕ → Node → Node) (retell : Row → Row) (nodes : List Node) (rows : List Row) : Type 0 where
  pub told : (at : ℕ) (x : Node) (row : Row) → StandsAt nodes at x → row_of x.serial rows ≡ Some row →
      retell row ≡ row_of_node row.root row.path (change at x)
  pub unended : (at : ℕ) (x : Node) (row : Row) → StandsAt nodes at x → row_of x.serial rows ≡ Some row → x.up ≡ at →
      (change at x).unended ≡ count_by (λ (r : Row). (r.root == row.root) && not r.ended) (map retell rows)
