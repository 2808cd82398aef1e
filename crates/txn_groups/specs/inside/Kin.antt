-- A node that is taken out of the nodes of its VXID.
use Rattle.std.specs.Prelude.{◌≡◌, ◌≢◌, ℕ, ◌<◌, ◌≤◌, ◌⊎◌, if◌then◌else◌, List, Option, Some, None}
use Rattle.txn_groups.specs.declared.node.Node.{Node}
use Rattle.txn_groups.specs.inside.Nodes.{StandsAt, HasKin}
use Rattle.txn_groups.specs.inside.Linked.{is_place}

-- a node beside one that is taken out
abbrev pub unlinked : Node → ℕ → Node → Node
unlinked g at x = record x {
  older = if is_place g.newer at then g.older else x.older;
  newer = if is_place g.older at then g.newer else x.newer;
}

-- a node that stands after one was taken out stood before
pub record StoodAt (old : List Node) (place : ℕ) (g : Node) (at : ℕ) (y : Node) : Type 0 where
  pub node : Node
  pub there : StandsAt old at node
  pub other : at ≢ place
  pub is : y ≡ unlinked g at node

-- the node at a place is taken out, and those beside it are linked to each other
pub record IsTakenOut (old new : List Node) (place : ℕ) (g : Node) : Type 0 where
  pub was : StandsAt old place g
  pub now : (at : ℕ) (x : Node) → StandsAt old at x → at ≢ place → StandsAt new at (unlinked g at x)
  pub stood : (at : ℕ) (y : Node) → StandsAt new at y → StoodAt old place g at y

-- nodes of one VXID are linked, and one serial number has one place
pub record AreKin (nodes : List Node) : Type 0 where
  pub kin : (at : ℕ) (x : Node) → StandsAt nodes at x → HasKin nodes x
  pub one : (at other : ℕ) (x y : Node) → StandsAt nodes at x → StandsAt nodes other y → x.serial ≡ y.serial →
      at ≡ other

-- a node that stood before another was put behind the newest of its VXID
abbrev pub relinked : Option ℕ → ℕ → ℕ → Node → Node
relinked older place at x = record x { newer = if is_place older at then Some place else x.newer }

-- a node after another was put in
pub record WasAt (old : List Node) (older : Option ℕ) (place at : ℕ) (y : Node) : Type 0 where
  pub node : Node
  pub there : StandsAt old at node
  pub is : y ≡ relinked older place at node

-- the newest node of a VXID
pub record IsNewestOf (nodes : List Node) (vxid : ℕ) (newest : Option ℕ) : Type 0 where
  pub some : (at : ℕ) → newest ≡ Some at → (y : Node) × StandsAt nodes at y × (y.vxid ≡ vxid) ×
      ((i : ℕ) (z : Node) → StandsAt nodes i z → z.vxid ≡ vxid → z.serial ≤ y.serial)
  pub none : newest ≡ None → (at : ℕ) (y : Node) → StandsAt nodes at y → y.vxid ≡ vxid → ⊥

-- a node is put at a free place, the last of all, behind the newest of its VXID
pub record IsPutIn (old new : List Node) (place : ℕ) (f : Node) (older : Option ℕ) : Type 0 where
  pub free : (x : Node) → StandsAt old place x → ⊥
  pub fresh : StandsAt new place f
  pub older_is : f.older ≡ older
  pub newer_is : f.newer ≡ None
  pub last : (at : ℕ) (x : Node) → StandsAt old at x → x.serial < f.serial
  pub newest : IsNewestOf old f.vxid older
  pub now : (at : ℕ) (x : Node) → StandsAt old at x → StandsAt new at (relinked older place at x)
  pub stood : (at : ℕ) (y : Node) → StandsAt new at y → ((at ≡ place) × (y ≡ f)) ⊎ WasAt old older place at y
