-- What the steps of a table do with its rows.
use Rattle.std.specs.Prelude.{◌≡◌, ℕ, ◌+◌, ◌≤◌, List, ◌++◌, Option, count_by}
use Rattle.txn_rows.specs.declared.rows.Row.{Row}
use Rattle.txn_rows.specs.declared.group.Group.{Group}
use Rattle.txn_rows.specs.declared.group.Grouping.{Grouping}
use Rattle.txn_rows.specs.declared.which.Which.{Which}
use Rattle.txn_rows.specs.Grouping.{State, Leaving, reported}
use Rattle.txn_rows.specs.Store.{WentBy, AddsPart, IsOrdered, test_of}
use Rattle.txn_rows.specs.States.{state_with}
use Rattle.txn_rows.specs.Trees.{AreTrees}

-- the rows went to the state that was reached, and of the groups that left on the way those that are reported were added to the list
pub record RowsStep (grouping : Grouping) (step : Leaving) (begun : ℕ) (time : Option ℕ) (now : List Row) (out_before out_now : List Group) : Type 0 where
  pub trees : AreTrees begun now
  pub state : state_with begun time now ≡ step.state
  pub groups : out_now ≡ out_before ++ reported grouping step.groups

-- what a store names: what is so of it while no call failed, the state that it keeps, and what it hands out for a group
module _ {S L : Type 0} (holds : S → Type 0) (state_of : S → State) (hand : Group → L) where
  -- what is still to be done, or a part of it, makes up the whole, or a part of that
  pub record GoesOn (grouping : Grouping) (all rest : Leaving) (out_before out_now : List L) : Type 0 where
    pub whole : (last : S) (out : List L) → WentBy holds state_of hand grouping rest last out_now out →
        WentBy holds state_of hand grouping all last out_before out
    pub part : (out : List L) → AddsPart hand grouping rest out_now out → AddsPart hand grouping all out_before out

  -- the oldest of these were force-completed, and so many more are at most: what the rest does is told of a number and a state
  pub record ForcesOn (grouping : Grouping) (which : Which) (rest : ℕ → State → Leaving) (all : Leaving) (turns most : ℕ) (store : S) (out_before out_now : List L) : Type 0 where
    pub ordered : IsOrdered holds state_of store
    pub left : ℕ
    pub enough : count_by (test_of which) (state_of store).pending ≤ left
    pub few : left + turns ≤ most
    pub on : GoesOn grouping all (rest left (state_of store)) out_before out_now
