-- The units of records that come one by one (this project's choice): a unit has records of one VXID and mark.
use Rattle.std.specs.Prelude.{ℕ, ◌==◌, ◌&&◌, not, if◌then◌else◌, Bool, List, [], ◌∷◌, ◌++◌, map, take}
use Rattle.std.specs.List.{list_any}
use Rattle.vsl_tags.specs.Tags.{end_tag}
use Rattle.vsl_record.specs.declared.record_type.Record.{Record}
use Rattle.vsl_record.specs.Unit.{LogUnit, Log}
use Rattle.vsl_select.specs.FileUnits.{is_same_mark}
use Rattle.raw_records.specs.Lines.{LoggedRecord}

-- a record with its payload cut to so many bytes
abbrev pub shortened : ℕ → LoggedRecord → LoggedRecord
shortened most l = record { vxid = l.vxid; rec = record (l.rec) { payload = take most l.rec.payload } }

-- a record as a unit
abbrev pub unit_of : LoggedRecord → LogUnit
unit_of l = record { vxid = l.vxid; mark = l.rec.mark; records = l.rec ∷ [] }

-- a unit with a record more
abbrev pub with_record : LogUnit → Record → LogUnit
with_record u rec = record u { records = u.records ++ rec ∷ [] }

-- the records of a unit, each with the unit's VXID
abbrev pub logged : LogUnit → List LoggedRecord
logged u = map (λ rec. record { vxid = u.vxid; rec = rec }) u.records

-- the units of records behind a unit that was begun: a record that goes into it becomes its last, and one that doesn't begins the next
abbrev pub gathered_from : (LogUnit → LoggedRecord → Bool) → LogUnit → List LoggedRecord → Log
gathered_from goes begun [] = begun ∷ []
gathered_from goes begun (l ∷ ls) = if goes begun l then gathered_from goes (with_record begun l.rec) ls
    else begun ∷ gathered_from goes (unit_of l) ls

-- the units of records, each as long as it can be: a unit ends before the first record that doesn't go into it
abbrev pub gathered : (LogUnit → LoggedRecord → Bool) → List LoggedRecord → Log
gathered goes [] = []
gathered goes (l ∷ ls) = gathered_from goes (unit_of l) ls

-- whether a unit has an End
abbrev pub has_end : LogUnit → Bool
has_end u = list_any (λ rec. rec.tag == end_tag) u.records

-- whether a batch goes on with a record: the record's VXID is the batch's and not 0, its mark is the batch's, and the
-- batch has no End. A listing doesn't tell which records were written at once, and those of VXID 0 don't belong
-- together
abbrev pub goes_on : LogUnit → LoggedRecord → Bool
goes_on batch l = (batch.vxid == l.vxid) && not (l.vxid == 0) && is_same_mark batch.mark l.rec.mark && not
    (has_end batch)
