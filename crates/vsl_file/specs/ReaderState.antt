-- What a reader of a file keeps, and what it represents (this project's choice).
use Rattle.std.specs.Prelude.{◌≡◌, ℕ, ◌+◌, ◌<◌, ◌≤◌, not, Bool, false, List, [], ◌∷◌, ◌++◌, length, Option, Some, None, Result, Ok, Err}
use Rattle.std.specs.List.{AllByRecursion}
use Rattle.vio.specs.World.{Seen, Reading, Read, ReadSome, FaultsRose, IsAtEnd}
use Rattle.vsl_record.specs.Unit.{LogUnit, Log}
use Rattle.vsl_words.specs.declared.version.Version.{Version}
use Rattle.vsl_record.specs.Words.{IsUnitOf}
use Rattle.vsl_file.specs.declared.fault.FileFault.{FileFault}
use Rattle.vsl_file.specs.declared.fault.FileFault.TheVariants as faults
use Rattle.vsl_file.specs.declared.reader.FileStep.{FileStep}
use Rattle.vsl_file.specs.declared.reader.FileStep.TheVariants as steps
use Rattle.vsl_file.specs.File.{file_header_of, log_bytes_of, most_bytes, FileEnding, Whole, NotALog, Damaged, TooLarge, IsFile, HoldsWhole, stops_early}

-- what a reader keeps: its handle, the version of the file, once its header was read, how many bytes it used, those that it
-- took and hasn't used, and whether it answered a fault
pub record ReaderState : Type 0 where
  pub handle : ℕ
  pub version : Option Version
  pub place : ℕ
  pub rest : List ℕ
  pub failed : Bool

-- the bytes that were used for these units
abbrev pub used : Option Version → Log → List ℕ
used None units = []
used (Some v) units = file_header_of v ++ log_bytes_of v units

-- units of a file of this version, or none where the header wasn't read
abbrev pub AreUnitsOf : Option Version → Log → Type 0
AreUnitsOf None units = units ≡ []
AreUnitsOf (Some v) units = AllByRecursion (IsUnitOf v) units

-- whether these bytes of a file don't stop early; of what version they are is known
abbrev pub holds_next : Option Version → List ℕ → Bool
holds_next None rest = false
holds_next (Some v) rest = not (stops_early v rest)

-- whether what comes next is at hand: the header was read, and the bytes that are held don't stop before the end of a unit. So a unit lies
-- in them, or what they begin is none, and nothing is read to see which
abbrev pub is_at_hand : ReaderState → Bool
is_at_hand r = holds_next r.version r.rest

-- the reader took these first bytes of a file, and gave these units
pub record Represents (r : ReaderState) (taken : List ℕ) (units : Log) : Type 0 where
  pub sound : r.failed ≡ false
  pub are_units : AreUnitsOf r.version units
  pub parts : taken ≡ used r.version units ++ r.rest
  pub place : r.place ≡ length (used r.version units)
  pub short : length r.rest < 65536
  pub most : length taken ≤ most_bytes

-- the next unit was given; fewer than 65,536 bytes past its end were taken. A header is looked at before more is asked
-- for, so a reader holds at most one unit and a piece
pub record GaveUnit (u : LogUnit) (old new : ReaderState) (taken : List ℕ) (units : Log) (before now : Seen) : Type 0 where
  pub added : List ℕ
  pub read : Read old.handle added before now
  pub represents : Represents new (taken ++ added) (units ++ u ∷ [])
  pub ahead : length (taken ++ added) < length (used new.version (units ++ u ∷ [])) + 65536

-- the file ended, and was whole
pub record GaveEnd (old new : ReaderState) (taken : List ℕ) (units : Log) (before now : Seen) : Type 0 where
  pub added : List ℕ
  pub read : Read old.handle added before now
  pub represents : Represents new (taken ++ added) units
  pub at_end : IsAtEnd old.handle now
  pub whole : IsFile (taken ++ added) units Whole

-- the file that is told ends so, after the units that were given
pub record EndsSo (old : ReaderState) (taken : List ℕ) (units : Log) (ending : FileEnding) (before now : Seen) : Type 0 where
  pub added : List ℕ
  pub read : Read old.handle added before now
  pub ends : (more : List ℕ) → now.left old.handle ≡ Some more → IsFile (taken ++ added ++ more) units ending

-- a read failed; every unit that lies whole in what was taken was given before
pub record StoppedSo (old : ReaderState) (taken : List ℕ) (units : Log) (before now : Seen) : Type 0 where
  pub added : List ℕ
  pub read : Read old.handle added before now
  pub rose : FaultsRose Reading old.handle before now
  pub holds : HoldsWhole (taken ++ added) units

-- why a call was refused
abbrev pub Refused : FileFault → ReaderState → List ℕ → Log → Seen → Seen → Type 0
Refused (faults.NotALog at) old taken units before now = EndsSo old taken units (NotALog at) before now
Refused (faults.Damaged at) old taken units before now = EndsSo old taken units (Damaged at) before now
Refused faults.TooLarge old taken units before now = EndsSo old taken units TooLarge before now
Refused faults.ReadFault old taken units before now = StoppedSo old taken units before now
Refused faults.NoMemory old taken units before now = ReadSome old.handle before now
Refused faults.FailedBefore old taken units before now = ⊥

-- what a call of a reader that answered no fault before came to
abbrev pub Stepped : Result FileStep FileFault → ReaderState → ReaderState → List ℕ → Log → Seen → Seen → Type 0
Stepped (Ok (steps.Unit u)) old new taken units before now = GaveUnit u old new taken units before now
Stepped (Ok steps.End) old new taken units before now = GaveEnd old new taken units before now
Stepped (Err e) old new taken units before now = Refused e old taken units before now

-- what such a call came to where what comes next was at hand: a unit, of what was taken before; or nothing more was taken, since the
-- file is damaged or there was no memory
abbrev pub SteppedAtHand : Result FileStep FileFault → ReaderState → ReaderState → List ℕ → Log → Seen → Type 0
SteppedAtHand (Ok (steps.Unit u)) old new taken units now = Represents new taken (units ++ u ∷ [])
SteppedAtHand (Ok steps.End) old new taken units now = ⊥
SteppedAtHand (Err (faults.NotALog at)) old new taken units now = ⊥
SteppedAtHand (Err (faults.Damaged at)) old new taken units now =
    (more : List ℕ) → now.left old.handle ≡ Some more → IsFile (taken ++ more) units (Damaged at)
SteppedAtHand (Err faults.TooLarge) old new taken units now = ⊥
SteppedAtHand (Err faults.ReadFault) old new taken units now = ⊥
SteppedAtHand (Err faults.NoMemory) old new taken units now = Prim.Unit {0}
SteppedAtHand (Err faults.FailedBefore) old new taken units now = ⊥
