-- The units of a group in a log file (varnishlog(1), "-w"; where a unit ends is this project's choice).
use Rattle.std.specs.Prelude.{ℕ, ◌&&◌, nat_le, if◌then◌else◌, Bool, true, false, List, [], ◌∷◌, ◌++◌, length}
use Rattle.std.specs.List.{flat_map}
use Rattle.vsl_record.specs.declared.mark.Mark.{Mark}
use Rattle.vsl_record.specs.declared.mark.Mark.TheVariants.{Client, Backend, Plain}
use Rattle.vsl_record.specs.declared.record_type.Record.{Record}
use Rattle.vsl_record.specs.Unit.{LogUnit, Log}
use Rattle.vsl_record.specs.Words.{unit_words}
use Rattle.txn_rows.specs.declared.group.Group.{Group}
use Rattle.txn_rows.specs.Transaction.{first_mark}

-- the most words of a unit that records of a group are written in
abbrev pub most_file_words : ℕ
most_file_words = 65536

-- records as a unit of this VXID and of the first one's mark
abbrev pub file_unit : ℕ → List Record → LogUnit
file_unit vxid records = record { vxid = vxid; mark = first_mark records; records = records }

-- whether two marks are the same
abbrev pub is_same_mark : Mark → Mark → Bool
is_same_mark Client Client = true
is_same_mark Backend Backend = true
is_same_mark Plain Plain = true
is_same_mark a b = false

-- whether a record goes into the unit of these records, behind them: it has their mark, and with it the unit has at
-- most 65,536 words. A unit has one mark, and a short unit lets a reader in pieces do with little memory
abbrev pub goes_into : ℕ → List Record → Record → Bool
goes_into vxid records rec =
    is_same_mark (first_mark records) rec.mark && nat_le
    (length (unit_words (file_unit vxid (records ++ rec ∷ [])))) most_file_words

-- the units of records, where a unit of the first of them was begun: a record that doesn't go into it begins the next
abbrev pub units_from : ℕ → List Record → List Record → Log
units_from vxid begun [] = file_unit vxid begun ∷ []
units_from vxid begun (rec ∷ records) =
    if goes_into vxid begun rec then units_from vxid (begun ++ rec ∷ []) records else file_unit vxid begun ∷
    units_from vxid (rec ∷ []) records

-- the units of records of this VXID; none has no records
abbrev pub units_of : ℕ → List Record → Log
units_of vxid [] = []
units_of vxid (rec ∷ records) = units_from vxid (rec ∷ []) records

-- the units of a group, or of what of it is shown: those of its members, in order. No Link is put in, because a written
-- log has the records that were read: a child that its own Begin alone names is read back below another transaction, of
-- unknown kind
abbrev pub file_units : Group → Log
file_units group = flat_map (λ m. units_of m.vxid m.records) group.members
