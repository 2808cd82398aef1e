-- What a store of pending transactions keeps, and what its calls do to it (this project's choice).
use Rattle.std.specs.Prelude.{◌≡◌, Bool, List, ◌++◌, map}
use Rattle.txn_rows.specs.declared.group.Group.{Group}
use Rattle.txn_rows.specs.declared.group.Grouping.{Grouping}
use Rattle.txn_rows.specs.declared.which.Which.{Which}
use Rattle.txn_rows.specs.declared.which.Which.TheVariants.{Unfinished, Late}
use Rattle.txn_rows.specs.Transaction.{Transaction}
use Rattle.txn_rows.specs.Grouping.{State, Leaving, is_unfinished, is_late, reported}
use Rattle.txn_rows.specs.Table.{GainsPrefix}
use Rattle.txn_rows.specs.Times.{IsTimed}

-- a store, of which something holds while no call failed, went to this state
pub record Went {S : Type 0} (holds : S → Type 0) (state_of : S → State) (state : State) (store : S) : Type 0 where
  pub kept : holds store
  pub told : state_of store ≡ state

-- a store is in order: the times of what is pending rise up to the log time
pub record IsOrdered {S : Type 0} (holds : S → Type 0) (state_of : S → State) (store : S) : Type 0 where
  pub kept : holds store
  pub times : IsTimed (state_of store)

-- which transactions are force-completed
abbrev pub test_of : Which → Transaction → Bool
test_of Unfinished = is_unfinished
test_of (Late seconds now) = is_late seconds now

-- of the groups that left on the way and are reported a prefix was handed out
abbrev pub AddsPart : {L : Type 0} → (Group → L) → Grouping → Leaving → List L → List L → Type 0
AddsPart hand grouping step out_before out_now =
    GainsPrefix (map hand (reported grouping step.groups)) out_before out_now

-- what a store names beside: what it hands out for a group
module _ {S L : Type 0} (holds : S → Type 0) (state_of : S → State) (hand : Group → L) where
  -- it went to the state that was reached, and of the groups that left on the way those that are reported were handed out
  pub record WentBy (grouping : Grouping) (step : Leaving) (store : S) (out_before out_now : List L) : Type 0 where
    pub kept : holds store
    pub state : state_of store ≡ step.state
    pub groups : out_now ≡ out_before ++ map hand (reported grouping step.groups)
