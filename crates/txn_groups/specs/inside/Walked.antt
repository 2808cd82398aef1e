-- What a walk over a tree of nodes gives.
use Rattle.std.specs.Prelude.{◌≡◌, ℕ, ◌+◌, List, [], ◌∷◌, ◌++◌, length, ⊤, Option, Some, None, slice_get}
use Rattle.txn_rows.specs.declared.group.Member.{Member}
use Rattle.txn_rows.specs.declared.group.Group.{Group}
use Rattle.txn_rows.specs.declared.rows.Row.{Row}
use Rattle.txn_rows.specs.Links.{parent_vxid}
use Rattle.txn_rows.specs.Trees.{row_of, IsTop}
use Rattle.txn_rows.specs.inside.Rows.{rows_below, rows_in_preorder}
use Rattle.txn_groups.specs.declared.node.Node.{Node}
use Rattle.txn_groups.specs.declared.walk.Visit.{Visit}
use Rattle.txn_groups.specs.inside.Nodes.{StandsAt}

-- the visit that is due of a place, where there is one
abbrev pub visit_of : Option ℕ → ℕ → List Visit
visit_of None level = []
visit_of (Some at) level = record { at = at; level = level } ∷ []

-- the top of a tree of so many nodes is at this place
pub record IsTopAt (nodes : List Node) (rows : List Row) (serial count at : ℕ) : Type 0 where
  pub node : Node
  pub there : StandsAt nodes at node
  pub is : node.serial ≡ serial
  pub row : Row
  pub found : row_of serial rows ≡ Some row
  pub root : row.root ≡ serial
  pub top : IsTop row
  pub counted : count ≡ length (rows_below serial rows)

-- a visit comes to the node of a row
pub record IsVisit (nodes : List Node) (rows : List Row) (row : Row) (v : Visit) : Type 0 where
  pub node : Node
  pub there : StandsAt nodes v.at node
  pub found : row_of node.serial rows ≡ Some row
  pub level : v.level ≡ length row.path + 1

-- visits come to the nodes of rows, one after the other
abbrev pub Visits : List Node → List Row → List Row → List Visit → Type 0
Visits nodes rows [] [] = ⊤
Visits nodes rows [] (v ∷ visits) = ⊥
Visits nodes rows (row ∷ tree) [] = ⊥
Visits nodes rows (row ∷ tree) (v ∷ visits) = IsVisit nodes rows row v × Visits nodes rows tree visits

-- visits come to the nodes of a tree in preorder
abbrev pub AreVisits : List Node → List Row → ℕ → List Visit → Type 0
AreVisits nodes rows root visits = Visits nodes rows (rows_in_preorder (rows_below root rows)) visits

-- the member of a node at a level, where there is one
abbrev pub member_at : Option Node → ℕ → List Member
member_at None level = []
member_at (Some x) level =
    record {
      vxid = x.vxid;
      kind = x.kind;
      reason = x.reason;
      level = level;
      parent = parent_vxid x.parent;
      records = x.records;
    } ∷ []

-- the members of the nodes of visits
abbrev pub members_of : List Node → List Visit → List Member
members_of nodes [] = []
members_of nodes (v ∷ visits) = member_at (slice_get nodes v.at) v.level ++ members_of nodes visits

-- the group of the nodes of visits
abbrev pub visited_group : List Node → List Visit → Group
visited_group nodes visits = record { members = members_of nodes visits }
