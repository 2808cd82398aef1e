-- How the calls of a table change it (this project's choice).
use Rattle.std.specs.Prelude.{◌≡◌, true, false, List, ◌++◌, map}
use Rattle.log_model.specs.Prefix.{IsPrefix}
use Rattle.txn_rows.specs.declared.group.Group.{Group}
use Rattle.txn_rows.specs.Grouping.{Leaving, reported}
use Rattle.txn_rows.specs.TableState.{TableState}

-- a list gained a prefix of these
pub record GainsPrefix {A : Type 0} (all out_before out_now : List A) : Type 0 where
  pub added : List A
  pub is : IsPrefix added all
  pub gained : out_now ≡ out_before ++ added

-- what is handed out for a group
module _ {L : Type 0} (hand : Group → L) where
  -- the table went to this state, and of the groups that left on the way those that are reported were handed out
  pub record TableStepped (leaving : Leaving) (before now : TableState) (out_before out_now : List L) : Type 0 where
    pub was_sound : before.failed ≡ false
    pub state : now ≡ record { options = before.options; state = leaving.state; failed = false }
    pub groups : out_now ≡ out_before ++ map hand (reported before.options.grouping leaving.groups)

  -- the table failed, and a prefix of the groups that are reported was handed out. It stays failed, so that no group is
  -- printed of which a record is missing
  pub record TableFailed (leaving : Leaving) (before now : TableState) (out_before out_now : List L) : Type 0 where
    pub options : now.options ≡ before.options
    pub failed : now.failed ≡ true
    pub gains : GainsPrefix (map hand (reported before.options.grouping leaving.groups)) out_before out_now

-- a table hands out the groups themselves
abbrev pub itself : Group → Group
itself group = group
