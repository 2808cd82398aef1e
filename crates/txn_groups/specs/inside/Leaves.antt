-- A tree of nodes that leaves where all of it have ended.
use Rattle.std.specs.Prelude.{◌≡◌, ℕ, List, [], ◌∷◌, ◌++◌, map}
use Rattle.txn_rows.specs.declared.rows.Row.{Row}
use Rattle.txn_rows.specs.declared.group.Group.{Group}
use Rattle.txn_rows.specs.declared.group.Grouping.{Grouping}
use Rattle.txn_rows.specs.Grouping.{Leaving, reported}
use Rattle.txn_rows.specs.Store as stores
use Rattle.txn_rows.specs.inside.Rows.{left_rows}
use Rattle.txn_groups.specs.declared.pending.Pending.{Pending}
use Rattle.txn_groups.specs.declared.walk.Visit.{Visit}
use Rattle.txn_groups.specs.inside.Marked.{KeepMarks}
use Rattle.txn_groups.specs.inside.Walked.{members_of, visited_group}
use Rattle.txn_groups.specs.inside.Taken.{AreTaken}
use Rattle.txn_groups.specs.inside.Held.{state_of, IsHeld, HoldsRows}

-- the nodes of visits were taken out, and their group was handed out, where it is reported
pub record AreHanded {L : Type 0} (hand : Group → L) (grouping : Grouping) (old new : Pending) (visits : List Visit) (out_before out_now : List L) : Type 0 where
  pub taken : AreTaken old new visits (members_of old.nodes.items visits)
  pub groups : out_now ≡ out_before ++ map hand (reported grouping (visited_group old.nodes.items visits ∷ []))

-- nodes hold the rows that are left, of the groups that left those that are reported were handed out, and nodes keep their marks
pub record LeavesAs {L : Type 0} (hand : Group → L) (grouping : Grouping) (root : ℕ) (rows : List Row) (old new : Pending) (out_before out_now : List L) : Type 0 where
  pub hold : HoldsRows new (left_rows root rows).rows
  pub groups : out_now ≡ out_before ++ map hand (reported grouping (left_rows root rows).groups)
  pub marks : KeepMarks old.nodes.items new.nodes.items
  pub begun : new.begun ≡ old.begun
  pub time : new.time ≡ old.time

-- nodes went to the state that was reached, and of the groups that left on the way those that are reported were handed out
abbrev pub WentBy : {L : Type 0} → (Group → L) → Grouping → Leaving → Pending → List L → List L → Type 0
WentBy hand = stores.WentBy IsHeld state_of hand
