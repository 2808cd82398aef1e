-- What a table tells (this project's choice).
use Rattle.std.specs.Prelude.{Bool}
use Rattle.txn_rows.specs.declared.group.GroupOptions.{GroupOptions}
use Rattle.txn_rows.specs.Grouping.{State}

-- what a table tells: its options, its state, and whether it failed for want of memory
pub record TableState : Type 0 where
  pub options : GroupOptions
  pub state : State
  pub failed : Bool
