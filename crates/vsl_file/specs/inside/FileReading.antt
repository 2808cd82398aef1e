-- What the first bytes of a unit tell (this project's choice). What a file holds stands in `File`.
use Rattle.std.specs.Prelude.{◌≡◌, ℕ, ◌≤◌, nat_lt, false, List, ◌++◌, length}
use Rattle.std.specs.List.{AllByRecursion}
use Rattle.vsl_words.specs.declared.version.Version.{Version}
use Rattle.vsl_record.specs.Unit.{LogUnit, Log}
use Rattle.vsl_record.specs.Words.{IsUnitOf}
use Rattle.vsl_file.specs.File.{unit_bytes_of, log_bytes_of, BeginsNoUnit, stops_early}

-- the first word of the bytes is the header of a unit of this many bytes, if of any, however the bytes go on
pub record IsHeadSize (v : Version) (size : ℕ) (bytes : List ℕ) : Type 0 where
  pub least : 12 ≤ size
  pub most : size ≤ 8388608
  pub only : (u : LogUnit) (more rest : List ℕ) → IsUnitOf v u → bytes ++ more ≡ unit_bytes_of v u ++ rest →
      length (unit_bytes_of v u) ≡ size
  pub stops : (more : List ℕ) → stops_early v (bytes ++ more) ≡ nat_lt (length (bytes ++ more)) size

-- the bytes begin no unit and don't stop early, however they go on
pub record IsBroken (v : Version) (bytes : List ℕ) : Type 0 where
  pub never : (more : List ℕ) → BeginsNoUnit v (bytes ++ more)
  pub stays : (more : List ℕ) → stops_early v (bytes ++ more) ≡ false

-- the bytes are this unit's and the rest
pub record BeginsWithUnit (v : Version) (bytes : List ℕ) (u : LogUnit) (rest : List ℕ) : Type 0 where
  pub is_unit : IsUnitOf v u
  pub parts : bytes ≡ unit_bytes_of v u ++ rest

-- these are all the units that begin the bytes
pub record IsReadUp (v : Version) (bytes : List ℕ) (units : Log) (rest : List ℕ) : Type 0 where
  pub are_units : AllByRecursion (IsUnitOf v) units
  pub parts : bytes ≡ log_bytes_of v units ++ rest
  pub no_more : BeginsNoUnit v rest
