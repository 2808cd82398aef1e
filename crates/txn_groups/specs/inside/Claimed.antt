-- What a claim on two nodes comes to.
use Rattle.std.specs.Prelude.{◌≡◌, ℕ, ◌==◌, ◌&&◌, not, is_none, Bool, true, false, List, Option, Some, None}
use Rattle.txn_rows.specs.declared.rows.Row.{Row}
use Rattle.txn_rows.specs.declared.join.Join.{Join}
use Rattle.txn_groups.specs.declared.link.Linking.{Linking}
use Rattle.txn_groups.specs.declared.node.Node.{Node}
use Rattle.txn_rows.specs.Transaction.{newest}
use Rattle.txn_groups.specs.declared.order.Entry.{Entry}
use Rattle.txn_groups.specs.inside.Nodes.{listed, transaction_of_node}
use Rattle.txn_groups.specs.inside.Linked.{NodeAt, CanLink}

-- whether a node can get another as its parent, of which the serial number at the top of its tree is told
abbrev pub can_link : Node → ℕ → Bool
can_link child root = is_none child.parent && not child.ended && not (root == child.serial)

-- the join of rows
abbrev pub join_of : Node → Node → Row → Join
join_of child parent row =
    record {
      child = child.serial;
      link = record { serial = parent.serial; vxid = parent.vxid; number = parent.children };
      root = row.root;
      path = row.path;
    }

-- a link, just where the child can get the parent
abbrev pub LinksAs : (nodes : List Node) (rows : List Row)
    (below above : ℕ) → NodeAt nodes rows below → NodeAt nodes rows above → Option Linking → Type 0
LinksAs nodes rows below above c p None = can_link c.node p.row.root ≡ false
LinksAs nodes rows below above c p (Some l) = (can_link c.node p.row.root ≡ true) × (l.below ≡ below) ×
    (l.above ≡ above) × CanLink nodes rows l (join_of c.node p.node p.row)

-- two nodes are the newest of two VXIDs
pub record AreNewest (nodes : List Node) (order : List Entry) (child parent : ℕ) (c p : Node) : Type 0 where
  pub child_is : newest child (listed nodes order) ≡ Some (transaction_of_node c)
  pub parent_is : newest parent (listed nodes order) ≡ Some (transaction_of_node p)
  pub vxid : c.vxid ≡ child
