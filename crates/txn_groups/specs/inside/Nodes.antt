-- Nodes as the rows of `txn_rows`, which stand in the order of their serial numbers and tell the root and the path of each.
use Rattle.std.specs.Prelude.{◌≡◌, ◌≢◌, ℕ, ◌+◌, ◌<◌, ◌≤◌, ◌==◌, ◌&&◌, ◌⊎◌, if◌then◌else◌, true, List, [], ◌∷◌, ◌++◌, not, Option, Some, None, count_by, slice_get}
use Rattle.txn_rows.specs.declared.rows.Row.{Row}
use Rattle.txn_rows.specs.declared.group.ParentLink.{ParentLink}
use Rattle.txn_rows.specs.Transaction.{Transaction}
use Rattle.txn_rows.specs.Trees.{row_of, AreTrees}
use Rattle.txn_groups.specs.declared.node.Node.{Node}
use Rattle.txn_groups.specs.declared.order.Entry.{Entry}

-- a node as a transaction
abbrev pub transaction_of_node : Node → Transaction
transaction_of_node x = record {
  serial = x.serial;
  vxid = x.vxid;
  kind = x.kind;
  reason = x.reason;
  records = x.records;
  parent = x.parent;
  ended = x.ended;
  time = x.time;
}

-- a node as a row, with the serial number at the top of its tree and its path beside it
abbrev pub row_of_node : ℕ → List ℕ → Node → Row
row_of_node root path x = record {
  serial = x.serial;
  vxid = x.vxid;
  kind = x.kind;
  reason = x.reason;
  records = x.records;
  parent = x.parent;
  children = x.children;
  ended = x.ended;
  time = x.time;
  root = root;
  path = path;
}

-- the node at a place, where a transaction stands there
pub record StandsAt (nodes : List Node) (at : ℕ) (x : Node) : Type 0 where
  pub here : slice_get nodes at ≡ Some x
  pub stands : x.stands ≡ true

-- the transaction of an entry, where its node still stands for it
abbrev pub told_of : Option Node → ℕ → List Transaction
told_of None serial = []
told_of (Some x) serial = if x.stands && (x.serial == serial) then transaction_of_node x ∷ [] else []

-- the pending transactions, in the order in which they began
abbrev pub listed : List Node → List Entry → List Transaction
listed nodes [] = []
listed nodes (e ∷ order) = told_of (slice_get nodes e.at) e.serial ++ listed nodes order

-- an element is in a list
abbrev pub IsIn : {X : Type 0} → List X → X → Type 0
IsIn [] x = ⊥
IsIn (y ∷ ys) x = (x ≡ y) ⊎ IsIn ys x

-- entries rise by their serial numbers, from one on, and stay below another
abbrev pub EntriesRise : ℕ → ℕ → List Entry → Type 0
EntriesRise low high [] = low ≤ high
EntriesRise low high (e ∷ order) = (low ≤ e.serial) × EntriesRise (e.serial + 1) high order

-- a row has a node
pub record HasNode (nodes : List Node) (order : List Entry) (row : Row) : Type 0 where
  pub at : ℕ
  pub node : Node
  pub here : StandsAt nodes at node
  pub is : row ≡ row_of_node row.root row.path node
  pub listed : IsIn order (record { serial = row.serial; at = at })

-- a node that stands has a row
pub record HasRow (rows : List Row) (x : Node) : Type 0 where
  pub row : Row
  pub found : row_of x.serial rows ≡ Some row
  pub is : row ≡ row_of_node row.root row.path x

-- nodes stand for rows, each for another, and entries lead to them
pub record StandFor (begun : ℕ) (nodes : List Node) (order : List Entry) (rows : List Row) : Type 0 where
  pub rising : EntriesRise 0 begun order
  pub node : (s : ℕ) (row : Row) → row_of s rows ≡ Some row → HasNode nodes order row
  pub row : (at : ℕ) (x : Node) → StandsAt nodes at x → HasRow rows x
  pub one : (at other : ℕ) (x y : Node) → StandsAt nodes at x → StandsAt nodes other y → x.serial ≡ y.serial →
      at ≡ other

-- links have numbers below those of children that their parents have, and no two children of one parent have one number
pub record AreNumbered (rows : List Row) : Type 0 where
  pub below : (s : ℕ) (row above : Row) (link : ParentLink) → row_of s rows ≡ Some row → row.parent ≡ Some link →
      row_of link.serial rows ≡ Some above → link.number < above.children
  pub apart : (s t : ℕ) (a b : Row) (p q : ParentLink) → row_of s rows ≡ Some a → row_of t rows ≡ Some b →
      a.parent ≡ Some p → b.parent ≡ Some q → p.serial ≡ q.serial → p.number ≡ q.number → s ≡ t

-- the child of a serial number, by its own number, is at this place
pub record ChildAt (nodes : List Node) (at serial number : ℕ) : Type 0 where
  pub node : Node
  pub there : StandsAt nodes at node
  pub link : ParentLink
  pub linked : node.parent ≡ Some link
  pub below : link.serial ≡ serial
  pub is : link.number ≡ number

-- the children of a node are linked in the order in which they joined it
pub record HasChildren (nodes : List Node) (rows : List Row) (x : Node) : Type 0 where
  pub first : (at : ℕ) → x.first ≡ Some at → ChildAt nodes at x.serial 0
  pub none : x.first ≡ None → x.children ≡ 0
  pub next : (at : ℕ) → x.next ≡ Some at → (link : ParentLink) × (x.parent ≡ Some link) ×
      ChildAt nodes at link.serial (link.number + 1)
  pub end : x.next ≡ None → (link : ParentLink) (above : Row) → x.parent ≡ Some link →
      row_of link.serial rows ≡ Some above → link.number + 1 ≡ above.children
  pub last : (at : ℕ) → x.last ≡ Some at → (number : ℕ) × (number + 1 ≡ x.children) × ChildAt nodes at x.serial number
  pub none_last : x.last ≡ None → x.children ≡ 0

-- a node leads up within its tree, to one with more nodes, or is the last, which tells of its tree
pub record LeadsUp (nodes : List Node) (rows : List Row) (at : ℕ) (x : Node) (row : Row) : Type 0 where
  pub above : Node
  pub there : StandsAt nodes x.up above
  pub above_row : Row
  pub found : row_of above.serial rows ≡ Some above_row
  pub root : above_row.root ≡ row.root
  pub more : x.up ≢ at → x.size < above.size
  pub some : 0 < x.size
  pub few : x.size ≤ count_by (λ (r : Row). r.root == row.root) rows
  pub size : x.up ≡ at → x.size ≡ count_by (λ (r : Row). r.root == row.root) rows
  pub unended : x.up ≡ at → x.unended ≡ count_by (λ (r : Row). (r.root == row.root) && not r.ended) rows
  pub top : x.up ≡ at → (y : Node) × StandsAt nodes x.top y × (y.serial ≡ row.root)

-- of each tree one node is the last
abbrev pub HaveOneLast : List Node → List Row → Type 0
HaveOneLast nodes rows = (at other : ℕ) (x y : Node) (row other_row : Row) → StandsAt nodes at x →
    StandsAt nodes other y → row_of x.serial rows ≡ Some row → row_of y.serial rows ≡ Some other_row → x.up ≡ at →
    y.up ≡ other → row.root ≡ other_row.root → at ≡ other

-- the nodes of a VXID are linked by their serial numbers
pub record HasKin (nodes : List Node) (x : Node) : Type 0 where
  pub older : (at : ℕ) → x.older ≡ Some at → (y : Node) × StandsAt nodes at y × (y.vxid ≡ x.vxid) ×
      (y.serial < x.serial) × ((i : ℕ) (z : Node) → StandsAt nodes i z → z.vxid ≡ x.vxid → z.serial < x.serial →
      z.serial ≤ y.serial)
  pub none_older : x.older ≡ None → (at : ℕ) (y : Node) → StandsAt nodes at y → y.vxid ≡ x.vxid → y.serial < x.serial →
      ⊥
  pub newer : (at : ℕ) → x.newer ≡ Some at → (y : Node) × StandsAt nodes at y × (y.vxid ≡ x.vxid) ×
      (x.serial < y.serial) × ((i : ℕ) (z : Node) → StandsAt nodes i z → z.vxid ≡ x.vxid → x.serial < z.serial →
      y.serial ≤ z.serial)
  pub none_newer : x.newer ≡ None → (at : ℕ) (y : Node) → StandsAt nodes at y → y.vxid ≡ x.vxid → x.serial < y.serial →
      ⊥

-- nodes stand for rows that stand in trees, and lead to one another as these do
pub record AreNodes (begun : ℕ) (nodes : List Node) (order : List Entry) (rows : List Row) : Type 0 where
  pub trees : AreTrees begun rows
  pub numbered : AreNumbered rows
  pub stand : StandFor begun nodes order rows
  pub children : (at : ℕ) (x : Node) → StandsAt nodes at x → HasChildren nodes rows x
  pub up : (at : ℕ) (x : Node) (row : Row) → StandsAt nodes at x → row_of x.serial rows ≡ Some row →
      LeadsUp nodes rows at x row
  pub last : HaveOneLast nodes rows
  pub kin : (at : ℕ) (x : Node) → StandsAt nodes at x → HasKin nodes x

-- nodes hold pending transactions: they stand for rows whose transactions these are
pub record Hold (begun : ℕ) (nodes : List Node) (order : List Entry) (pending : List Transaction) : Type 0 where
  pub rows : List Row
  pub are : AreNodes begun nodes order rows
  pub told : listed nodes order ≡ pending
