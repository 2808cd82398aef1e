-- What the steps of reading a unit answer (this project's choice).
use Rattle.std.specs.Prelude.{◌≡◌, ℕ, ◌+◌, ◌-◌, ◌/◌, ◌%◌, ◌==◌, ◌<◌, ◌≤◌, if◌then◌else◌, List, ◌++◌, length, slice_index, Some}
use Rattle.std.specs.List.{flat_map, AllByRecursion}
use Rattle.vsl_words.specs.declared.version.Version.{Version}
use Rattle.vsl_words.specs.declared.version.Version.TheVariants.{One, Two}
use Rattle.vsl_words.specs.Versions.{id_size, vxid_end_of, most_words_of}
use Rattle.vsl_record.specs.declared.fault.WordFault.{WordFault}
use Rattle.vsl_record.specs.declared.mark.Mark.{Mark}
use Rattle.vsl_record.specs.declared.mark.Mark.TheVariants.{Client, Backend, Plain}
use Rattle.vsl_record.specs.declared.record_type.Record.{Record}
use Rattle.vsl_record.specs.Payload.{IsPayload}
use Rattle.vsl_record.specs.Unit.{IsRecordOf}
use Rattle.vsl_record.specs.Words.{packed, record_words_of}
use Rattle.vsl_record.specs.WordFaults.{record_fault}

-- the mark of an id; both bits together, which are refused elsewhere, are read as none
abbrev pub mark_of : Version → ℕ → Mark
mark_of v id = if id / vxid_end_of v == 1 then Client else (if id / vxid_end_of v == 2 then Backend else Plain)

-- the place of the first word in which two ids differ
abbrev pub differing : Version → ℕ → ℕ → ℕ
differing One id other = 0
differing Two id other = if id % 4294967296 == other % 4294967296 then 1 else 0

-- the words are as many as their header counts, and it can be a unit's
pub record IsHeaded (v : Version) (words : List ℕ) : Type 0 where
  pub top : slice_index words 0 / 16777216 ≡ 254
  pub some : 2 + id_size v ≤ slice_index words 0 % 16777216
  pub few : slice_index words 0 % 16777216 ≤ most_words_of v
  pub whole : length words ≡ slice_index words 0 % 16777216

-- the words are those of a payload of so many bytes, and then these
pub record IsPayloadRead (bytes : ℕ) (words payload after : List ℕ) : Type 0 where
  pub parts : words ≡ packed payload ++ after
  pub count : length payload ≡ bytes
  pub fits : IsPayload payload

-- the words are those of a record with this id, and then these
pub record IsRecordRead (v : Version) (id : ℕ) (words : List ℕ) (rec : Record) (after : List ℕ) : Type 0 where
  pub parts : words ≡ record_words_of v (id % vxid_end_of v) rec ++ after
  pub record_is : IsRecordOf (mark_of v id) rec

-- the words are those of records with this id, and then these
pub record AreRecordsRead (v : Version) (id : ℕ) (words : List ℕ) (records : List Record) (after : List ℕ) : Type 0 where
  pub parts : words ≡ flat_map (record_words_of v (id % vxid_end_of v)) records ++ after
  pub are_records : AllByRecursion (IsRecordOf (mark_of v id)) records

-- the words are those of records with this id, and then those of a record with this fault, which reach to the unit's end
pub record StopsAt (v : Version) (id : ℕ) (words : List ℕ) (fault : WordFault) : Type 0 where
  pub before : List Record
  pub rest : List ℕ
  pub read : AreRecordsRead v id words before rest
  pub some : 0 < length rest
  pub faulty : record_fault v id (1 + length words - length rest) rest ≡ Some fault
