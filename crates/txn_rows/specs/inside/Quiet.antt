-- Records that disturb nothing: they change their own transaction, and may tell the time, and no group leaves.
use Rattle.std.specs.Prelude.{◌≡◌, ℕ, ◌==◌, ◌&&◌, ◌||◌, not, nat_le, if◌then◌else◌, Bool, true, false, List, [], ◌∷◌, Option, Some, None, IfSome}
use Rattle.std.specs.List.{list_all}
use Rattle.vsl_tags.specs.Tags.{begin_tag, link_tag, timestamp_tag, end_tag}
use Rattle.vsl_record.specs.declared.record_type.Record.{Record}
use Rattle.txn_rows.specs.declared.group.Grouping.{Grouping}
use Rattle.txn_rows.specs.declared.group.Grouping.TheVariants.{Vxid}
use Rattle.txn_rows.specs.declared.group.GroupOptions.{GroupOptions}
use Rattle.txn_rows.specs.Time.{time_of}
use Rattle.txn_rows.specs.Transaction.{with_newest, longer_by}
use Rattle.txn_rows.specs.Grouping.{State, raised}
use Rattle.txn_rows.specs.Times.{NoneLateUpTo}

-- whether each transaction is a group by itself
abbrev pub is_alone : Grouping → Bool
is_alone Vxid = true
is_alone grouping = false

-- whether a record of this tag neither begins nor ends a transaction, and links no two
abbrev pub joins_run : Grouping → ℕ → Bool
joins_run grouping tag = not (tag == begin_tag) && not (tag == end_tag) && (not (tag == link_tag) || is_alone grouping)

-- whether a time that was told, if one was, is no later than a log time that is known
abbrev pub is_by : Option ℕ → Option ℕ → Bool
is_by None told = false
is_by (Some last) None = true
is_by (Some last) (Some time) = nat_le time last

-- whether a record disturbs nothing, where no transaction is late up to a log time
abbrev pub is_quiet : Grouping → Option ℕ → Record → Bool
is_quiet grouping last rec = if rec.tag == timestamp_tag then is_by last (time_of rec.payload) else joins_run grouping
    rec.tag

-- the log time behind a record
abbrev pub time_after : Record → Option ℕ → Option ℕ
time_after rec time = if rec.tag == timestamp_tag then raised (time_of rec.payload) time else time

-- the log time behind records
abbrev pub latest : List Record → Option ℕ → Option ℕ
latest [] time = time
latest (rec ∷ run) time = latest run (time_after rec time)

-- a record disturbs nothing, and this is the log time behind it
pub record IsQuiet (grouping : Grouping) (last time now : Option ℕ) (rec : Record) : Type 0 where
  pub quiet : is_quiet grouping last rec ≡ true
  pub told : now ≡ time_after rec time

-- records disturb nothing, and this is the log time behind them
pub record AreQuiet (grouping : Grouping) (last time now : Option ℕ) (run : List Record) : Type 0 where
  pub quiet : list_all (is_quiet grouping last) run ≡ true
  pub told : now ≡ latest run time

-- the same, where the state says that they disturb nothing
pub record IsRun (options : GroupOptions) (state : State) (now : Option ℕ) (run : List Record) : Type 0 where
  pub last : Option ℕ
  pub none_late : IfSome last (λ l. NoneLateUpTo options.timeout l state)
  pub are : AreQuiet options.grouping last state.time now run

-- the state behind records that disturb nothing
abbrev pub after_run : ℕ → List Record → State → State
after_run vxid run state = record state {
  pending = with_newest vxid (longer_by run) state.pending;
  time = latest run state.time;
}
