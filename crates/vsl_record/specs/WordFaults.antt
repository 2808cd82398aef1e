-- The first fault of words that begin with no unit of a version (this project's choice). A fault names the word where it shows,
-- by its place: how many words stand before it, counted from the unit's header word.
use Rattle.std.specs.Prelude.{◌≡◌, ◌⊎◌, ℕ, ◌+◌, ◌*◌, ◌/◌, ◌%◌, ◌<◌, ◌==◌, ◌&&◌, nat_lt, nat_le, Bool, if◌then◌else◌, List, [], ◌∷◌, ◌++◌, length, take, drop, slice_index, Option, Some, None}
use Rattle.std.specs.List.{AllByRecursion}
use Rattle.vsl_tags.specs.Tags.{first_tag, last_tag}
use Rattle.vsl_words.specs.declared.version.Version.{Version}
use Rattle.vsl_words.specs.Versions.{id_size, vxid_end_of, most_words_of, id_words, id_in}
use Rattle.vsl_words.specs.Words.{payload_words, is_filled}
use Rattle.vsl_record.specs.declared.fault.WordFault.{WordFault}
use Rattle.vsl_record.specs.declared.fault.WordFault.TheVariants.{Short, BadTag, BadLength, BadMark, Mixed, BadPadding}
use Rattle.vsl_record.specs.Payload.{most_payload}
use Rattle.vsl_record.specs.Unit.{LogUnit, IsRecordOf}
use Rattle.vsl_record.specs.Words.{body_words_of}

-- a fault where the test doesn't hold, and else what comes next
abbrev pub unless : Bool → WordFault → Option WordFault → Option WordFault
unless test fault next = if test then next else Some fault

-- the first fault of a unit's header word, where there are so many words: there is no word, the top byte is not 0xFE, it
-- counts fewer words than itself and a record without a payload are, or more than a unit has, or there are fewer words than
-- it counts
unfoldable pub header_fault : Version → ℕ → ℕ → Option WordFault
header_fault v head count =
    unless (nat_le 1 count) Short (
    unless (head / 16777216 == 0xFE) (BadTag 0) (
    unless (nat_le (2 + id_size v) (head % 16777216) && nat_le (head % 16777216) (most_words_of v)) (BadLength 0) (
    unless (nat_le (head % 16777216) count) Short None)))

-- a fault at the first of these words, which go from a place on, that isn't the one it should be, and else what comes next
unfoldable pub mixed_fault : ℕ → List ℕ → List ℕ → Option WordFault → Option WordFault
mixed_fault at [] words next = next
mixed_fault at (w ∷ ws) words next = unless (slice_index words 0 == w) (Mixed at)
    (mixed_fault (at + 1) ws (drop 1 words) next)

-- the first fault of the record that begins these words, which go from this place to the unit's end: its tag; its length, past
-- 4,000 bytes or past the unit's end; the first word of its id that isn't that of the unit's first record; both marks in the id's
-- last word, which show in the first record, since all others have its id; and the bytes that fill its last word
unfoldable pub record_fault : Version → ℕ → ℕ → List ℕ → Option WordFault
record_fault v first_id at words =
    let head = slice_index words 0 in
    let behind = drop (id_size v) (drop 1 words) in
    unless (nat_le first_tag (head / 16777216) && nat_le (head / 16777216) last_tag) (BadTag at) (
    unless (nat_le (head % 16777216) most_payload) (BadLength at) (
    unless (nat_le (1 + id_size v + payload_words (head % 16777216)) (length words)) (BadLength at) (
    mixed_fault (at + 1) (id_words v first_id) (drop 1 words) (
    unless (nat_lt first_id (vxid_end_of v * 3)) (BadMark (at + id_size v)) (
    unless (is_filled (head % 16777216) behind) (BadPadding (at + (1 + id_size v) + head % 16777216 / 4)) None)))))

-- the unit that the words' header counts has good records, none or more, and then a record with this fault
pub record HasBadRecord (v : Version) (words : List ℕ) (fault : WordFault) : Type 0 where
  pub before : LogUnit  -- the good records, with their VXID and mark
  pub rest : List ℕ  -- the unit's words from the record at fault on
  pub vxid : before.vxid < vxid_end_of v
  pub records : AllByRecursion (IsRecordOf before.mark) before.records
  pub parts : take (slice_index words 0 % 16777216) words ≡ slice_index words 0 ∷ body_words_of v before ++ rest
  pub some : 0 < length rest
  pub faulty : record_fault v (id_in v (drop 2 words)) (1 + length (body_words_of v before)) rest ≡ Some fault

-- the first fault of the words: the header's, or else that of the unit's first record that has one
abbrev pub FirstFault : Version → List ℕ → WordFault → Type 0
FirstFault v words fault =
    (header_fault v (slice_index words 0) (length words) ≡ Some fault) ⊎
    ((header_fault v (slice_index words 0) (length words) ≡ None) × HasBadRecord v words fault)
