-- Records that are a whole transaction, which can leave as a group at once.
use Rattle.std.specs.Prelude.{◌≡◌, ◌<◌, ℕ, ◌-◌, ◌==◌, true, false, List, [], ◌∷◌, ◌++◌, length, take, drop, Option}
use Rattle.vsl_tags.specs.Tags.{begin_tag, end_tag}
use Rattle.vsl_record.specs.declared.record_type.Record.{Record}
use Rattle.vsl_record.specs.Unit.{LogUnit}
use Rattle.txn_rows.specs.declared.group.Grouping.TheVariants.{Vxid}
use Rattle.txn_rows.specs.declared.group.GroupOptions.{GroupOptions}
use Rattle.txn_rows.specs.Transaction.{is_pending}
use Rattle.txn_rows.specs.Grouping.{State}
use Rattle.txn_rows.specs.inside.Quiet.{IsRun}

-- the records between the first and the last
abbrev pub inside_of : List Record → List Record
inside_of records = take (length records - 2) (drop 1 records)

-- records begin with a Begin and end with an End
pub record HasEnds (records : List Record) : Type 0 where
  pub first : Record
  pub last : Record
  pub whole : records ≡ first ∷ inside_of records ++ last ∷ []
  pub begins : (first.tag == begin_tag) ≡ true
  pub ends : (last.tag == end_tag) ≡ true

-- each transaction is a group by itself, and a unit is a whole one, of whose VXID none is pending: there is room for one more, the records
-- between its ends disturb nothing, and this is the log time behind them
pub record IsWhole (options : GroupOptions) (state : State) (time : Option ℕ) (u : LogUnit) : Type 0 where
  pub grouping : options.grouping ≡ Vxid
  pub none : is_pending u.vxid state.pending ≡ false
  pub few : length state.pending < options.limit
  pub has_ends : HasEnds u.records
  pub run : IsRun options state time (inside_of u.records)
