-- The words of a unit (this project's choice). Each word is a 32-bit number. What is said of them is said over a version, a
-- value; the words by which units are kept and written are those of version 2, and those of version 1 are read.
use Rattle.std.specs.Prelude.{ℕ, ◌+◌, ◌*◌, ◌<◌, ◌≤◌, List, ◌∷◌, ◌++◌, length}
use Rattle.std.specs.List.{flat_map, AllByRecursion}
use Rattle.vsl_words.specs.declared.version.Version.{Version}
use Rattle.vsl_words.specs.declared.version.Version.TheVariants.{One, Two}
use Rattle.vsl_words.specs.Versions.{vxid_end_of, most_words_of, id_words}
use Rattle.vsl_record.specs.declared.mark.Mark.{Mark}
use Rattle.vsl_record.specs.declared.mark.Mark.TheVariants.{Client, Backend, Plain}
use Rattle.vsl_record.specs.declared.record_type.Record.{Record}
use Rattle.vsl_record.specs.Unit.{LogUnit, IsRecordOf}
pub use Rattle.vsl_words.specs.Words.{word_of, packed, word_bytes, words_in, payload_words}

-- what a unit's header word is above its number of words: its top byte is 0xFE
abbrev pub header_mark : ℕ
header_mark = 0xFE00_0000

-- a mark's two bits: the lower for a client, the higher for a backend, neither for none
abbrev pub mark_number : Mark → ℕ
mark_number Client = 1
mark_number Backend = 2
mark_number Plain = 0

-- ---- in a version

-- an id, which tells whose a record is: the VXID, and above it the mark
abbrev pub id_of : Version → ℕ → Mark → ℕ
id_of v vxid mark = vxid + vxid_end_of v * mark_number mark

-- the words of a record: its tag and length, its id, and its payload
abbrev pub record_words_of : Version → ℕ → Record → List ℕ
record_words_of v vxid rec =
    (16777216 * rec.tag + length rec.payload) ∷ (id_words v (id_of v vxid rec.mark) ++ packed rec.payload)

-- the words of a unit's records
abbrev pub body_words_of : Version → LogUnit → List ℕ
body_words_of v u = flat_map (record_words_of v u.vxid) u.records

-- the words of a unit: a header that counts all of them, itself included, and the records' words
abbrev pub unit_words_of : Version → LogUnit → List ℕ
unit_words_of v u = (header_mark + (1 + length (body_words_of v u))) ∷ body_words_of v u

-- what a unit must meet, and then it has words of this version: its VXID is in range, it has a record, each record is of its
-- mark, has one of the tags and at most 4,000 bytes of payload, and the words are not too many
pub record IsUnitOf (v : Version) (u : LogUnit) : Type 0 where
  pub vxid : u.vxid < vxid_end_of v
  pub some : 0 < length u.records
  pub records : AllByRecursion (IsRecordOf u.mark) u.records
  pub size : length (unit_words_of v u) ≤ most_words_of v

-- ---- in version 2, and in version 1

-- the most words that a unit has
abbrev pub most_words : ℕ
most_words = most_words_of Two

-- the words of a record
abbrev pub record_words : ℕ → Record → List ℕ
record_words = record_words_of Two

-- the words of a unit
abbrev pub unit_words : LogUnit → List ℕ
unit_words = unit_words_of Two

-- the words of a unit by version 1
abbrev pub unit_words1 : LogUnit → List ℕ
unit_words1 = unit_words_of One

-- what each unit meets
abbrev pub IsUnit : LogUnit → Type 0
IsUnit = IsUnitOf Two
