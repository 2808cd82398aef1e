-- Worked examples of the units of a group in a log file, computed from the definitions.
use Rattle.std.proofs.Common.{ℕ, ◌≡◌, [], ◌∷◌, refl}
use Rattle.std.specs.Prelude.{codes}
use Rattle.vsl_record.specs.declared.mark.Mark.{Mark}
use Rattle.vsl_record.specs.declared.mark.Mark.TheVariants.{Client, Backend}
use Rattle.vsl_record.specs.declared.record_type.Record.{Record}
use Rattle.txn_rows.specs.Grouping.{raw_group}
use Rattle.vsl_select.specs.FileUnits.{file_units, units_of}
use Rattle.vsl_select.proofs.Examples.{group_with, forced_request, fetch, nothing_yet}

abbrev short_record : Mark → Record
short_record mark = record { tag = 3; mark = mark; payload = codes "abcde" }

-- a new unit begins where the mark changes, also where it changes back
marks_change : units_of 7 (short_record Client ∷ short_record Client ∷ short_record Backend ∷ short_record Client ∷ [])
    ≡ record { vxid = 7; mark = Client; records = short_record Client ∷ short_record Client ∷ [] }
    ∷ record { vxid = 7; mark = Backend; records = short_record Backend ∷ [] }
    ∷ record { vxid = 7; mark = Client; records = short_record Client ∷ [] }
    ∷ []
marks_change = refl

-- each member of a group has units of its own, in order, and one without records has none
units_of_members : file_units (group_with (forced_request ∷ nothing_yet ∷ fetch ∷ []))
    ≡ record { vxid = 9; mark = Client; records = forced_request.records } ∷ record { vxid = 3; mark = Backend; records = fetch.records } ∷ []
units_of_members = refl

-- a record by itself is a unit by itself
raw_unit : (vxid : ℕ) (rec : Record) → file_units (raw_group vxid rec) ≡ record { vxid = vxid; mark = rec.mark; records = rec ∷ [] } ∷ []
raw_unit vxid rec = refl
