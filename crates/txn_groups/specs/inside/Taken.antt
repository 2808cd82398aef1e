-- A node that is taken out, and the place that it leaves.
use Rattle.std.specs.Prelude.{◌≡◌, ◌≢◌, ℕ, ◌+◌, ◌⊎◌, List, [], ◌∷◌, length, ⊤, Option, Some, None, slice_get}
use Rattle.vsl_record.specs.declared.record_type.Record.{Record}
use Rattle.txn_rows.specs.declared.group.Member.{Member}
use Rattle.txn_groups.specs.declared.node.Node.{Node}
use Rattle.txn_groups.specs.declared.pending.Pending.{Pending}
use Rattle.txn_groups.specs.declared.walk.Visit.{Visit}
use Rattle.txn_groups.specs.inside.Nodes.{StandsAt}
use Rattle.txn_groups.specs.inside.Left.{IsRelinked, Remains}
use Rattle.txn_groups.specs.inside.Kin.{AreKin, IsTakenOut}
use Rattle.txn_groups.specs.inside.Walked.{member_at, members_of}
use Rattle.txn_groups.specs.inside.Indexed.{IsIndex}
use Rattle.txn_groups.specs.inside.Places.{AreFree, IsFree}

-- the records of a node, where there is one
abbrev pub records_at : Option Node → List Record
records_at None = []
records_at (Some x) = x.records

-- a place is free, and nothing changed elsewhere
pub record IsFreed (old new : List Node) (at : ℕ) : Type 0 where
  pub free : IsFree new at
  pub others : (i : ℕ) → i ≢ at → slice_get new i ≡ slice_get old i

-- a place is freed, where there is a node
abbrev pub Frees : List Node → List Node → ℕ → Type 0
Frees old new at = (x : Node) → slice_get old at ≡ Some x → IsFreed old new at

-- the node of a visit was taken out as a member
pub record IsNodeTaken (old new : Pending) (visit : Visit) (member : Member) : Type 0 where
  pub node : Node
  pub out : IsTakenOut old.nodes.items new.nodes.items visit.at node
  pub is : member_at (Some node) visit.level ≡ member ∷ []
  pub index : IsIndex new.nodes.items new.index
  pub free : AreFree new.nodes.items new.free.items
  pub rows : new.rows + 1 ≡ old.rows
  pub order : new.order.items ≡ old.order.items
  pub begun : new.begun ≡ old.begun
  pub time : new.time ≡ old.time

-- the node of a visit was taken out as a member, and not none
abbrev pub TakesOut : Pending → Pending → Visit → Option Member → Type 0
TakesOut old new visit None = ⊥
TakesOut old new visit (Some member) = IsNodeTaken old new visit member

-- a visit of the list comes to this place
abbrev pub ComesTo : List Visit → ℕ → Type 0
ComesTo [] at = ⊥
ComesTo (v ∷ visits) at = (v.at ≡ at) ⊎ ComesTo visits at

-- the node of a visit stands, and no visit of the list comes to its place
pub record IsStanding (nodes : List Node) (visits : List Visit) (v : Visit) : Type 0 where
  pub node : Node
  pub there : StandsAt nodes v.at node
  pub once : ComesTo visits v.at → ⊥

-- the nodes of visits stand, and no two visits come to one place
abbrev pub AreStanding : List Node → List Visit → Type 0
AreStanding nodes [] = ⊤
AreStanding nodes (v ∷ visits) = IsStanding nodes visits v × AreStanding nodes visits

-- the nodes of visits were taken out as members, and all others stand
pub record AreTaken (old new : Pending) (visits : List Visit) (group : List Member) : Type 0 where
  pub kin : AreKin new.nodes.items
  pub index : IsIndex new.nodes.items new.index
  pub free : AreFree new.nodes.items new.free.items
  pub were : (at : ℕ) (y : Node) → StandsAt new.nodes.items at y → IsRelinked old.nodes.items at y ×
      (ComesTo visits at → ⊥)
  pub remain : (at : ℕ) (x : Node) → StandsAt old.nodes.items at x → (ComesTo visits at → ⊥) →
      Remains new.nodes.items at x
  pub members : group ≡ members_of old.nodes.items visits
  pub rows : new.rows + length visits ≡ old.rows
  pub order : new.order.items ≡ old.order.items
  pub begun : new.begun ≡ old.begun
  pub time : new.time ≡ old.time
