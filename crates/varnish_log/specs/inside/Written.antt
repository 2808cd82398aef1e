-- The units of records that are written as they come (this project's choice): each as long as it can be, and the last one goes on.
use Rattle.std.specs.Prelude.{◌≡◌, ℕ, ◌<◌, Bool, List, [], ◌++◌, length, Option, Some, None}
use Rattle.std.specs.List.{AllByRecursion, flat_map}
use Rattle.vsl_record.specs.declared.mark.Mark.{Mark}
use Rattle.vsl_record.specs.Unit.{IsRecordOf, LogUnit, Log, vxid_end}
use Rattle.vsl_record.specs.Words.{IsUnit, unit_words}
use Rattle.vsl_file.specs.File.{log_bytes, record_bytes}
use Rattle.raw_records.specs.Lines.{LoggedRecord}
use Rattle.raw_records.specs.Gathered.{gathered, gathered_from, goes_on, has_end}

-- the unit that goes on: its VXID and mark, how many words it has, and whether it has an End
pub record Begun : Type 0 where
  pub vxid : ℕ
  pub mark : Mark
  pub words : ℕ
  pub ended : Bool

-- what is kept of the unit that goes on: what is known of it, and the bytes of its records
pub record Kept : Type 0 where
  pub begun : Option Begun
  pub body : List ℕ

-- nothing goes on
abbrev pub nothing : Kept
nothing = record { begun = None; body = [] }

-- what is so of the records of a unit that goes on, and of its VXID
pub record IsGood (u : LogUnit) : Type 0 where
  pub vxid : u.vxid < vxid_end
  pub records : AllByRecursion (IsRecordOf u.mark) u.records

-- this is kept of a unit
pub record IsOf (o : Begun) (kept : List ℕ) (u : LogUnit) : Type 0 where
  pub vxid : o.vxid ≡ u.vxid
  pub mark : o.mark ≡ u.mark
  pub words : o.words ≡ length (unit_words u)
  pub ended : o.ended ≡ has_end u
  pub body : kept ≡ flat_map (record_bytes u.vxid) u.records

-- this is kept where this unit goes on, or none
abbrev pub Keeps : Kept → Option LogUnit → Type 0
Keeps k None = (k.begun ≡ None) × (k.body ≡ [])
Keeps k (Some u) = (o : Begun) × (k.begun ≡ Some o) × IsOf o k.body u × IsGood u × (0 < length u.records)

-- the units of records behind one that goes on, or none
abbrev pub gathered_behind : Option LogUnit → List LoggedRecord → Log
gathered_behind None ls = gathered goes_on ls
gathered_behind (Some u) ls = gathered_from goes_on u ls

-- these records came: behind what the list had before, it has the bytes of their units but the last, which goes on
pub record IsWritten (kept : Kept) (out before : List ℕ) (ls : List LoggedRecord) : Type 0 where
  pub done : Log
  pub are_units : AllByRecursion IsUnit done
  pub last : Option LogUnit
  pub keeps : Keeps kept last
  pub has : out ≡ before ++ log_bytes done
  pub goes : (more : List LoggedRecord) → gathered goes_on (ls ++ more) ≡ done ++ gathered_behind last more

-- how many words the unit that goes on has; where none does, 1, which is the header of the next
abbrev pub words_of : Kept → ℕ
words_of kept = elim kept.begun as (λ (o : Option Begun). ℕ) [ None ↦ 1 | Some o ↦ o.words ]
