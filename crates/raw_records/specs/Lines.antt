-- The lines of a listing (the raw lines of varnishlog(1), "-g raw"; blank lines, comments and the bounds are this project's choice). A
-- line is what stands before a line feed, without a carriage return at its end; the last may lack the line feed, and then keeps the
-- carriage return.
use Rattle.std.specs.Prelude.{◌≡◌, ◌≢◌, ℕ, ◌+◌, ◌<◌, ◌≤◌, ◌==◌, Bool, false, List, [], ◌∷◌, ◌++◌, length, replicate, Option, None, Some}
use Rattle.std.specs.List.{All, AllByRecursion, AllZip}
use Rattle.std.specs.Str.Lines.{lines, strip_carriage_return}
use Rattle.std.specs.Str.Parse.{AllDigits, digits_value}
use Rattle.vsl_tags.specs.Called.{IsTagName}
use Rattle.vsl_record.specs.declared.mark.Mark.{Mark}
use Rattle.vsl_record.specs.declared.record_type.Record.{Record}
use Rattle.vsl_record.specs.Unit.{vxid_end}
use Rattle.txn_rows.specs.Claim.{most_digits}
use Rattle.vsl_select.specs.RawLine.{mark_letter}
use Rattle.raw_records.specs.declared.line.LineFault.{LineFault}
use Rattle.raw_records.specs.declared.line.LineFault.TheVariants.{OtherForm, OtherVxid, UnknownTag}

-- the byte between the parts of a line
abbrev pub space : ℕ
space = 32

-- whether a byte is a space
abbrev pub is_space : ℕ → Bool
is_space b = b == space

-- the byte with which a comment begins
abbrev pub comment_mark : ℕ
comment_mark = 35

-- a record with its VXID
pub record LoggedRecord : Type 0 where
  pub vxid : ℕ
  pub rec : Record

-- what a line means
pub data Line : Type 0 where
  BlankLine : Line
  CommentLine : Line
  RecordLine : LoggedRecord → Line

-- the parts of a record's line, as they are written, and how many spaces stand before them
pub record WrittenRecord : Type 0 where
  pub before_vxid : ℕ
  pub vxid : List ℕ
  pub before_name : ℕ
  pub name : List ℕ
  pub before_mark : ℕ
  pub mark : Mark
  pub payload : Option (List ℕ)

-- the text of a payload: nothing, or a space and the payload
abbrev pub print_payload : Option (List ℕ) → List ℕ
print_payload None = []
print_payload (Some payload) = space ∷ payload

-- the text of a record's line
abbrev pub print_record : WrittenRecord → List ℕ
print_record w =
    replicate w.before_vxid space ++ w.vxid ++ replicate w.before_name space ++ w.name ++ replicate w.before_mark space
    ++ mark_letter w.mark ∷ print_payload w.payload

-- what is written has the form of a record: spaces or none, one digit or more, one space or more, a word, one space or more, a mark, and a payload
pub record HasForm (w : WrittenRecord) : Type 0 where
  pub digits : AllDigits 10 w.vxid
  pub some_digits : 0 < length w.vxid
  pub before_name : 0 < w.before_name
  pub word : AllByRecursion (λ b. is_space b ≡ false) w.name
  pub some_word : 0 < length w.name
  pub before_mark : 0 < w.before_mark

-- a VXID is 1 to 19 digits, with a value in range; leading zeros are read
abbrev pub IsVxid : List ℕ → ℕ → Type 0
IsVxid digits vxid = AllDigits 10 digits × (0 < length digits) × (length digits ≤ most_digits) ×
    (digits_value 10 digits ≡ vxid) × (vxid < vxid_end)

-- the payload that is written; none is an empty one. Nothing is unescaped: a tab was printed as `\x09`, and so was a
-- payload of these four bytes, so nobody knows which it was
abbrev pub payload_of : Option (List ℕ) → List ℕ
payload_of None = []
payload_of (Some payload) = payload

-- what is written is this record: spaces or none, its VXID, one space or more, its tag's name, one space or more, its mark, and its payload
pub record IsWritten (w : WrittenRecord) (l : LoggedRecord) : Type 0 where
  pub vxid : IsVxid w.vxid l.vxid
  pub before_name : 0 < w.before_name
  pub name : IsTagName l.rec.tag w.name
  pub before_mark : 0 < w.before_mark
  pub mark : w.mark ≡ l.rec.mark
  pub payload : payload_of w.payload ≡ l.rec.payload

-- what a line's bytes mean: no bytes or spaces alone are a blank line, bytes behind a comment mark are a comment, and a
-- record is written as above. A comment is passed over and ends no batch, so that a note can stand anywhere
abbrev pub IsLine : List ℕ → Line → Type 0
IsLine bytes BlankLine = (n : ℕ) × (bytes ≡ replicate n space)
IsLine bytes CommentLine = (text : List ℕ) × (bytes ≡ comment_mark ∷ text)
IsLine bytes (RecordLine l) = (w : WrittenRecord) × IsWritten w l × (bytes ≡ print_record w)

-- why a line's bytes have no meaning: they are no blank line, no comment, and nothing of a record's form; or something of that form with another VXID,
-- or with a VXID and a word that is no tag's name. A tag that isn't known is refused, since records would be lost in
-- silence else; varnishlog's own -x leaves out what isn't wanted
abbrev pub IsRefused : List ℕ → LineFault → Type 0
IsRefused bytes OtherForm = ¬ (IsLine bytes BlankLine) × ¬ (IsLine bytes CommentLine) ×
    ((w : WrittenRecord) → HasForm w → bytes ≢ print_record w)
IsRefused bytes OtherVxid = (w : WrittenRecord) × HasForm w × (bytes ≡ print_record w) ×
    ((vxid : ℕ) → ¬ (IsVxid w.vxid vxid))
IsRefused bytes UnknownTag = (w : WrittenRecord) × HasForm w × (bytes ≡ print_record w) ×
    ((vxid : ℕ) × IsVxid w.vxid vxid) × ((tag : ℕ) → ¬ (IsTagName tag w.name))

-- the byte that ends a line
abbrev pub line_feed : ℕ
line_feed = 10

-- no byte is a line feed
abbrev pub HasNoFeed : List ℕ → Type 0
HasNoFeed bytes = All (λ b. (b == line_feed) ≡ false) bytes

-- the first line that ends with a line feed, without it and a carriage return before it, and what follows. So texts of
-- either kind of line end are read; on a last line that isn't ended a carriage return may be of the payload
abbrev pub IsEndedLine : List ℕ → List ℕ → List ℕ → Type 0
IsEndedLine bytes line rest = (text : List ℕ) × HasNoFeed text × (bytes ≡ text ++ line_feed ∷ rest) ×
    (line ≡ strip_carriage_return text)

-- the lines of a listing mean these, each the one at its place
abbrev pub HasLines : List ℕ → List Line → Type 0
HasLines bytes ls = AllZip IsLine (lines bytes) ls

-- the line is the first that is bad, counted from 1: those before it have meanings, and it has none
pub record IsFirstBad (bytes : List ℕ) (line : ℕ) : Type 0 where
  pub before : List (List ℕ)
  pub bad : List ℕ
  pub behind : List (List ℕ)
  pub meant : List Line
  pub parts : lines bytes ≡ before ++ bad ∷ behind
  pub place : line ≡ length before + 1
  pub are_lines : AllZip IsLine before meant
  pub is_bad : (l : Line) → ¬ (IsLine bad l)
