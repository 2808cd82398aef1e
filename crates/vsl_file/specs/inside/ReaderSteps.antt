-- What the steps of reading a file find (this project's choice). `old` is what was taken and not used before, `new` what is now, and
-- `most` how many bytes may be held.
use Rattle.std.specs.Prelude.{◌≡◌, ◌≢◌, ℕ, ◌+◌, ◌<◌, ◌≤◌, true, false, List, [], ◌∷◌, ◌++◌, length, take, drop, Some, Result, Ok, Err}
use Rattle.vio.specs.World.{Seen, Reading, Read, FaultsRose, IsAtEnd}
use Rattle.vsl_record.specs.Unit.{LogUnit, Log}
use Rattle.vsl_words.specs.declared.version.Version.{Version}
use Rattle.vsl_record.specs.Words.{IsUnitOf}
use Rattle.vsl_file.specs.declared.header.Header.{Header}
use Rattle.vsl_file.specs.declared.header.Header.TheVariants.{Found, Missing}
use Rattle.vsl_file.specs.declared.steps.Held.{Held}
use Rattle.vsl_file.specs.declared.steps.Held.TheVariants.{Sized, Stopped, Broken}
use Rattle.vsl_file.specs.declared.steps.Taken.{Taken}
use Rattle.vsl_file.specs.declared.steps.Taken.TheVariants.{Whole, End, Damaged, TooLarge}
use Rattle.vsl_file.specs.declared.fault.FileFault.{FileFault}
use Rattle.vsl_file.specs.declared.fault.StepFault.{StepFault}
use Rattle.vsl_file.specs.declared.fault.StepFault.TheVariants as step_faults
use Rattle.vsl_file.specs.ReaderState.{ReaderState, Represents, Refused}
use Rattle.vsl_file.specs.File.{unit_bytes_of, file_header_of, BeginsNoUnit, DiffersFirst, stops_early}
use Rattle.vsl_file.specs.inside.FileReading.{IsHeadSize, IsBroken}

-- the bytes gained some, which were read from the handle
pub record Filled (h : ℕ) (old new : List ℕ) (before now : Seen) : Type 0 where
  pub added : List ℕ
  pub is : new ≡ old ++ added
  pub read : Read h added before now

-- ---- what is held

-- as many bytes as the header counts are held, and no more were read than one read gives
pub record HoldsSized (v : Version) (size : ℕ) (old new : List ℕ) : Type 0 where
  pub sized : IsHeadSize v size new
  pub enough : size ≤ length new
  pub short : length old < 65536 → length new < size + 65536

-- the bytes stop before the end of a unit, or where one would begin; they are all that is left, or as many as may be held
pub record HoldsStopped (v : Version) (h most : ℕ) (new : List ℕ) (now : Seen) : Type 0 where
  pub stops : stops_early v new ≡ true
  pub end : length new < most → IsAtEnd h now

-- what reading towards a unit came to
abbrev pub Holds : Version → ℕ → ℕ → Held → List ℕ → List ℕ → Seen → Type 0
Holds v h most (Sized size) old new now = HoldsSized v size old new
Holds v h most Stopped old new now = HoldsStopped v h most new now
Holds v h most Broken old new now = IsBroken v new

-- one more byte was read, to see that the file goes on
pub record GoesOn (h : ℕ) (before now : Seen) : Type 0 where
  pub aside : ℕ
  pub read : Read h (aside ∷ []) before now

-- nothing was read, since nothing is left
pub record HasEnded (h : ℕ) (before now : Seen) : Type 0 where
  pub read : Read h [] before now
  pub end : IsAtEnd h now

-- ---- what a step took

-- a unit of this size was taken from the bytes, of which more may have been read
pub record TookUnit (v : Version) (h most : ℕ) (u : LogUnit) (size : ℕ) (old new : List ℕ) (before now : Seen) : Type 0 where
  pub held : List ℕ
  pub filled : Filled h old held before now
  pub is_unit : IsUnitOf v u
  pub size_is : length (unit_bytes_of v u) ≡ size
  pub least : 12 ≤ size
  pub parts : held ≡ unit_bytes_of v u ++ new
  pub short : length old < 65536 → length new < 65536
  pub within : size + length new ≤ most

-- there was nothing more
pub record TookEnd (h : ℕ) (old new : List ℕ) (before now : Seen) : Type 0 where
  pub filled : Filled h old new before now
  pub none : new ≡ []
  pub end : IsAtEnd h now

-- these bytes are what a damaged file has after its units, where at most so many of them are read
pub record IsDamagedRest (v : Version) (most : ℕ) (rest : List ℕ) : Type 0 where
  pub some : take most rest ≢ []
  pub none : BeginsNoUnit v (take most rest)
  pub stays : most < length rest → stops_early v (take most rest) ≡ false

-- a damaged file's bytes begin where the next unit would, also with all that the handle has left, where that is told
pub record TookDamaged (v : Version) (h most : ℕ) (old new : List ℕ) (before now : Seen) : Type 0 where
  pub filled : Filled h old new before now
  pub rest : (more : List ℕ) → now.left h ≡ Some more → IsDamagedRest v most (new ++ more)

-- as many bytes as may be held stop early, and the file goes on
pub record TookTooLarge (v : Version) (h most : ℕ) (old new : List ℕ) (before now : Seen) : Type 0 where
  pub added : List ℕ
  pub aside : ℕ
  pub is : new ≡ old ++ added
  pub read : Read h (added ++ aside ∷ []) before now
  pub full : length new ≡ most
  pub stops : stops_early v new ≡ true

-- a read failed before a whole unit was there
pub record CutShort (v : Version) (h : ℕ) (old new : List ℕ) (before now : Seen) : Type 0 where
  pub filled : Filled h old new before now
  pub stops : stops_early v new ≡ true
  pub rose : FaultsRose Reading h before now

-- what a step took
abbrev pub Took : Version → ℕ → ℕ → Taken → List ℕ → List ℕ → Seen → Seen → Type 0
Took v h most (Whole u size) old new before now = TookUnit v h most u size old new before now
Took v h most End old new before now = TookEnd h old new before now
Took v h most Damaged old new before now = TookDamaged v h most old new before now
Took v h most TooLarge old new before now = TookTooLarge v h most old new before now

-- what a step took of bytes that don't stop early: a unit of them, or nothing, since they are damaged or there was no memory
abbrev pub TookHeld : Result Taken StepFault → List ℕ → List ℕ → Type 0
TookHeld (Ok (Whole u size)) old new = length old ≡ size + length new
TookHeld (Ok End) old new = ⊥
TookHeld (Ok Damaged) old new = Prim.Unit {0}
TookHeld (Ok TooLarge) old new = ⊥
TookHeld (Err step_faults.Failed) old new = ⊥
TookHeld (Err step_faults.NoMemory) old new = Prim.Unit {0}

-- the header was taken from the bytes, of which more may have been read
pub record TookHeader (v : Version) (h most : ℕ) (old new : List ℕ) (before now : Seen) : Type 0 where
  pub held : List ℕ
  pub filled : Filled h old held before now
  pub parts : held ≡ file_header_of v ++ new
  pub short : length old < 65536 → length new < 65536
  pub within : 8 + length new ≤ most

-- another header begins what is held then, also with all that the handle has left, where that is told
pub record NoHeader (h at : ℕ) (old : List ℕ) (before now : Seen) : Type 0 where
  pub held : List ℕ
  pub filled : Filled h old held before now
  pub differs : (more : List ℕ) → now.left h ≡ Some more → DiffersFirst at (held ++ more)

-- what begins the bytes: a version's header, or none, where they go on as one up to a byte among them or behind them
abbrev pub Begins : Header → List ℕ → Type 0
Begins (Found v) bytes = bytes ≡ file_header_of v ++ drop 8 bytes
Begins (Missing at) bytes = DiffersFirst at bytes × (at ≤ length bytes)

-- what reading the header came to
abbrev pub TookStart : ℕ → ℕ → Header → List ℕ → List ℕ → Seen → Seen → Type 0
TookStart h most (Found v) old new before now = TookHeader v h most old new before now
TookStart h most (Missing at) old new before now = NoHeader h at old before now

-- a read failed before the header was there
pub record CutHeader (h : ℕ) (old : List ℕ) (before now : Seen) : Type 0 where
  pub held : List ℕ
  pub filled : Filled h old held before now
  pub short : length held < 8
  pub rose : FaultsRose Reading h before now

-- the header was read
pub record Began (old new : ReaderState) (taken : List ℕ) (units : Log) (before now : Seen) : Type 0 where
  pub added : List ℕ
  pub read : Read old.handle added before now
  pub represents : Represents new (taken ++ added) units

-- what reading the header came to; it isn't read twice
abbrev pub BeganSo : {T : Type 0} → Result T FileFault → ReaderState → ReaderState → List ℕ → Log → Seen → Seen → Type 0
BeganSo (Ok x) old new taken units before now = Began old new taken units before now
BeganSo (Err e) old new taken units before now = Refused e old taken units before now
