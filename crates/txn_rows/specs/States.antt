-- The state that a table holds (this project's choice).
use Rattle.std.specs.Prelude.{◌≡◌, ℕ, ◌≤◌, false, List, length, map, Option, Some}
use Rattle.txn_rows.specs.declared.rows.Row.{Row}
use Rattle.txn_rows.specs.declared.pending.Pending.{Pending}
use Rattle.txn_rows.specs.Grouping.{State}
use Rattle.txn_rows.specs.Trees.{transaction_of, row_of, AreTrees}
use Rattle.txn_rows.specs.Store.{IsOrdered}

-- the state that rows hold
abbrev pub state_with : ℕ → Option ℕ → List Row → State
state_with begun time rows = record { pending = map transaction_of rows; begun = begun; time = time }

-- what rows, their number and a time say
abbrev pub state_of : Pending → State
state_of p = state_with p.begun p.time p.rows.items

-- pending rows stand in trees
abbrev pub StandInTrees : Pending → Type 0
StandInTrees p = AreTrees p.begun p.rows.items

-- a row of a tree that has not ended
pub record HasOpen (rows : List Row) (root : ℕ) : Type 0 where
  pub row : Row
  pub here : row_of row.serial rows ≡ Some row
  pub inside : row.root ≡ root
  pub unended : row.ended ≡ false

-- each tree has a row that has not ended
abbrev pub OpenTrees : List Row → Type 0
OpenTrees rows = (s : ℕ) (row : Row) → row_of s rows ≡ Some row → HasOpen rows row.root

-- a state whose transactions are those of rows that stand in trees, of each of which one has not ended
pub record Standing (state : State) : Type 0 where
  pub rows : List Row
  pub trees : AreTrees state.begun rows
  pub told : map transaction_of rows ≡ state.pending
  pub unended : OpenTrees rows

-- a store is in order, of each tree of what is pending one has not ended, and no more than the limit are
pub record IsSound {S : Type 0} (holds : S → Type 0) (state_in : S → State) (limit : ℕ) (store : S) : Type 0 where
  pub ordered : IsOrdered holds state_in store
  pub standing : Standing (state_in store)
  pub within : length (state_in store).pending ≤ limit
