-- The content of a log file: its units, and how it ends (this project's choice).
use Rattle.std.specs.Prelude.{◌≡◌, ◌≢◌, ℕ, ◌+◌, ◌*◌, ◌/◌, ◌%◌, ◌^◌, ◌<◌, ◌≤◌, ◌==◌, ◌&&◌, ◌||◌, ◌⊎◌, nat_lt, nat_le, Bool, true, false, List, [], ◌∷◌, ◌++◌, length, take, slice_get, codes}
use Rattle.std.specs.Int.{w32, from_le_bytes}
use Rattle.std.specs.List.{flat_map, AllByRecursion}
use Rattle.vsl_words.specs.declared.version.Version.{Version}
use Rattle.vsl_words.specs.declared.version.Version.TheVariants.{One, Two}
use Rattle.vsl_words.specs.Versions.{id_size, most_words_of}
use Rattle.vsl_record.specs.declared.record_type.Record.{Record}
use Rattle.vsl_record.specs.Unit.{LogUnit, Log}
use Rattle.vsl_record.specs.Words.{record_words, unit_words_of, word_bytes, IsUnitOf}

-- the eight bytes with which a log file of a version begins
abbrev pub file_header_of : Version → List ℕ
file_header_of One = codes "VSLOG-1\n"
file_header_of Two = codes "VSLOG-2\n"

-- those of version 2, in which files are written
abbrev pub file_header : List ℕ
file_header = file_header_of Two

-- the most bytes of a file that count; what follows them makes it too large
unfoldable pub most_bytes : ℕ
most_bytes = 2 ^ 40

-- the bytes of a file that count: all of them, or its first 2^40. So it is defined for every list of bytes what a file
-- is, and sums stay far below 2^64
abbrev pub bytes_read : List ℕ → List ℕ
bytes_read bytes = take most_bytes bytes

-- the bytes of a record of a unit of this VXID, in version 2
abbrev pub record_bytes : ℕ → Record → List ℕ
record_bytes vxid rec = word_bytes (record_words vxid rec)

-- the bytes of a unit in a version
abbrev pub unit_bytes_of : Version → LogUnit → List ℕ
unit_bytes_of v u = word_bytes (unit_words_of v u)

-- the bytes of a log in a version
abbrev pub log_bytes_of : Version → Log → List ℕ
log_bytes_of v units = flat_map (unit_bytes_of v) units

-- the bytes of a unit in version 2
abbrev pub unit_bytes : LogUnit → List ℕ
unit_bytes = unit_bytes_of Two

-- the bytes of a log in version 2
abbrev pub log_bytes : Log → List ℕ
log_bytes = log_bytes_of Two

-- a record of this VXID as a unit by itself
abbrev pub alone_unit : ℕ → Record → LogUnit
alone_unit vxid rec = record { vxid = vxid; mark = rec.mark; records = rec ∷ [] }

-- the bytes of records of this VXID, each as a unit by itself
abbrev pub alone_bytes : ℕ → List Record → List ℕ
alone_bytes vxid records = flat_map (λ rec. unit_bytes (alone_unit vxid rec)) records

-- how a file ends
pub data FileEnding : Type 0 where
  -- with a whole unit, or with the header
  Whole : FileEnding
  -- it is no log: this is the first byte at which it begins as no version's header, or its length where it ends inside one
  NotALog : ℕ → FileEnding
  -- the unit that begins at this byte isn't whole and correct
  Damaged : ℕ → FileEnding
  -- past 2^40 bytes, where what was read may go on
  TooLarge : FileEnding

-- whether a file ends whole
abbrev pub is_whole : FileEnding → Bool
is_whole Whole = true
is_whole (NotALog at) = false
is_whole (Damaged at) = false
is_whole TooLarge = false

-- the byte is the first that differs from that of a version's header, or that is missing
pub record DiffersFrom (v : Version) (at : ℕ) (bytes : List ℕ) : Type 0 where
  pub inside : at < length (file_header_of v)
  pub prefix : take at bytes ≡ take at (file_header_of v)
  pub differs : slice_get bytes at ≢ slice_get (file_header_of v) at

-- the bytes go on as a version's header up to this byte, and as none any further
pub record DiffersFirst (at : ℕ) (bytes : List ℕ) : Type 0 where
  pub longest : (v : Version) × DiffersFrom v at bytes
  pub none : (v : Version) → (place : ℕ) × (place ≤ at) × DiffersFrom v place bytes

-- the bytes are the header of a version, these units in it, and the rest
pub record IsSplit (v : Version) (bytes : List ℕ) (units : Log) (rest : List ℕ) : Type 0 where
  pub are_units : AllByRecursion (IsUnitOf v) units
  pub parts : bytes ≡ file_header_of v ++ log_bytes_of v units ++ rest

-- the bytes of no unit of a version begin them
abbrev pub BeginsNoUnit : Version → List ℕ → Type 0
BeginsNoUnit v bytes = (u : LogUnit) (more : List ℕ) → IsUnitOf v u → bytes ≢ unit_bytes_of v u ++ more

-- whether a word can be the header of a unit: its top byte is 0xFE, and it counts no fewer words than itself and a record
-- without a payload are, and no more than a unit has
abbrev pub is_unit_header : Version → ℕ → Bool
is_unit_header v head =
    (head / 16777216 == 254) && nat_le (2 + id_size v) (head % 16777216) && nat_le (head % 16777216) (most_words_of v)

-- the bytes stop early: before the end of a unit's header word, or before the end of a unit whose header can be one
abbrev pub stops_early : Version → List ℕ → Bool
stops_early v bytes =
    let head = from_le_bytes w32 bytes in
    nat_lt (length bytes) 4 || (is_unit_header v head && nat_lt (length bytes) (4 * (head % 16777216)))

-- these are all units that lie whole in the first bytes of a file, in which no damage shows: fewer bytes than a header has, or
-- a version's header, the bytes of these units, and a rest that stops early
abbrev pub HoldsWhole : List ℕ → Log → Type 0
HoldsWhole bytes units =
    ((length bytes < 8) × (units ≡ [])) ⊎
    ((v : Version) × (rest : List ℕ) × IsSplit v bytes units rest × (stops_early v rest ≡ true))

-- the bytes of a file hold these units, and it ends so
abbrev pub IsFile : List ℕ → Log → FileEnding → Type 0
IsFile bytes units Whole = (length bytes ≤ most_bytes) × ((v : Version) × IsSplit v bytes units [])
IsFile bytes units (NotALog at) = (units ≡ []) × DiffersFirst at bytes
IsFile bytes units (Damaged at) =
    (v : Version) × (rest : List ℕ) × (rest ≢ []) × BeginsNoUnit v rest × IsSplit v (bytes_read bytes) units rest ×
    (at + length rest ≡ length (bytes_read bytes)) × (most_bytes < length bytes → stops_early v rest ≡ false)
IsFile bytes units TooLarge =
    (most_bytes < length bytes) ×
    ((v : Version) × (rest : List ℕ) × IsSplit v (bytes_read bytes) units rest × (stops_early v rest ≡ true))
