-- Groups whose records units can have: what is written of them to a log file is units (varnishlog(1), "-w"; what a unit
-- must meet is this project's choice).
use Rattle.std.specs.Prelude.{◌<◌, List, ⊤}
use Rattle.std.specs.List.{All}
use Rattle.vsl_record.specs.declared.record_type.Record.{Record}
use Rattle.vsl_record.specs.Unit.{vxid_end, IsRecordOf}
use Rattle.vsl_record.specs.Words.{IsUnit}
use Rattle.txn_rows.specs.declared.group.Member.{Member}
use Rattle.txn_rows.specs.declared.group.Group.{Group}
use Rattle.txn_rows.specs.Grouping.{Taken, TakenUnit, Missed}

-- an item that is no overrun is a unit
abbrev pub TakesUnit : Taken → Type 0
TakesUnit (TakenUnit u) = IsUnit u
TakesUnit Missed = ⊤

-- all that was taken is units and overruns
abbrev pub TakeUnits : List Taken → Type 0
TakeUnits taken = All TakesUnit taken

-- each record is one that a unit of its mark can have
abbrev pub AreOfUnits : List Record → Type 0
AreOfUnits records = All (λ (rec : Record). IsRecordOf rec.mark rec) records

-- a member has the VXID of a unit, and records that units can have
pub record IsOfUnits (m : Member) : Type 0 where
  pub vxid : m.vxid < vxid_end
  pub records : AreOfUnits m.records

-- each member of a group has
abbrev pub IsGroupOfUnits : Group → Type 0
IsGroupOfUnits g = All IsOfUnits g.members
