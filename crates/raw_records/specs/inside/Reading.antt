-- How the lines of a listing are read.
use Rattle.std.specs.Prelude.{ℕ, ◌==◌, if◌then◌else◌, List, [], ◌∷◌, drop, take_while, Option, None, Some, Result, Ok, Err, option_and_then}
use Rattle.std.specs.Char.{is_ascii_digit}
use Rattle.std.specs.List.{prefix_len, position_or_len, before_first}
use Rattle.vsl_tags.specs.Called as called
use Rattle.vsl_record.specs.declared.mark.Mark.{Mark}
use Rattle.vsl_record.specs.declared.mark.Mark.TheVariants.{Client, Backend, Plain}
use Rattle.txn_rows.specs.Claim.{vxid_named}
use Rattle.raw_records.specs.declared.line.LineFault.{LineFault}
use Rattle.raw_records.specs.declared.line.LineFault.TheVariants.{OtherForm, OtherVxid, UnknownTag}
use Rattle.raw_records.specs.declared.line.LineRead.{LineRead}
use Rattle.raw_records.specs.declared.line.Parts.{Parts}
use Rattle.raw_records.specs.Lines.{is_space, comment_mark, LoggedRecord, Line, BlankLine, CommentLine, RecordLine}
use Rattle.raw_records.specs.LineRead.{line_of}

-- what is read of what was read, where something was
infixl 10 ◌>>=◌
abbrev pub ◌>>=◌ : {A B : Type 0} → Option A → (A → Option B) → Option B
o >>= f = option_and_then f o

-- a text without the spaces at its beginning
unfoldable pub without_spaces : List ℕ → List ℕ
without_spaces [] = []
without_spaces (b ∷ text) = if is_space b then without_spaces text else b ∷ text

-- what follows one or more spaces
unfoldable pub behind_spaces : List ℕ → Option (List ℕ)
behind_spaces [] = None
behind_spaces (b ∷ text) = if is_space b then Some (without_spaces text) else None

-- the digits at the beginning of a text
unfoldable pub digits_of : List ℕ → List ℕ
digits_of text = take_while is_ascii_digit text

-- what follows the digits at the beginning of a text
unfoldable pub behind_digits : List ℕ → List ℕ
behind_digits text = drop (prefix_len is_ascii_digit text) text

-- the bytes before the first space of a text
unfoldable pub word_of : List ℕ → List ℕ
word_of text = before_first is_space text

-- the first space of a text, and what follows it
unfoldable pub behind_word : List ℕ → List ℕ
behind_word text = drop (position_or_len is_space text) text

-- the tag that a name finds
unfoldable pub tag_called : List ℕ → Option ℕ
tag_called name = called.tag_called name

-- the mark of a letter
unfoldable pub mark_of : ℕ → Option Mark
mark_of letter = if letter == 99 then Some Client
    else (if letter == 98 then Some Backend else (if letter == 45 then Some Plain else None))

-- the payload that stands behind the mark: none is an empty one, and else a space stands before it
unfoldable pub payload_behind : List ℕ → Option (List ℕ)
payload_behind [] = Some []
payload_behind (b ∷ text) = if is_space b then Some text else None

-- a mark and a payload that are written so
unfoldable pub marked : List ℕ → Option (Mark × List ℕ)
marked [] = None
marked (letter ∷ text) = do
  mark ← mark_of letter
  payload ← payload_behind text
  Some (mark, payload)

-- the parts of a record's line
pub record Written : Type 0 where
  pub vxid : List ℕ
  pub name : List ℕ
  pub mark : Mark
  pub payload : List ℕ

-- such parts, where none is missing
unfoldable pub some_parts : List ℕ → List ℕ → Mark → List ℕ → Option Written
some_parts [] name mark payload = None
some_parts (b ∷ digits) [] mark payload = None
some_parts (b ∷ digits) (c ∷ name) mark payload =
    Some (record { vxid = b ∷ digits; name = c ∷ name; mark = mark; payload = payload })

-- the parts of the record's line that a text without spaces at its beginning is
unfoldable pub parts_of : List ℕ → Option Written
parts_of text = do
  named ← behind_spaces (behind_digits text)
  last ← behind_spaces (behind_word named)
  is ← marked last
  some_parts (digits_of text) (word_of named) is.0 is.1

-- the record that these parts are, where its VXID and tag were found
unfoldable pub record_from : Written → Option ℕ → Option ℕ → Result LoggedRecord LineFault
record_from parts None tag = Err OtherVxid
record_from parts (Some vxid) None = Err UnknownTag
record_from parts (Some vxid) (Some tag) =
    Ok (record { vxid = vxid; rec = record { tag = tag; mark = parts.mark; payload = parts.payload } })

-- the record that these parts are
unfoldable pub record_of : Option Written → Result LoggedRecord LineFault
record_of None = Err OtherForm
record_of (Some parts) = record_from parts (vxid_named parts.vxid) (tag_called parts.name)

-- the line of a record
unfoldable pub record_line : Result LoggedRecord LineFault → Result Line LineFault
record_line (Ok l) = Ok (RecordLine l)
record_line (Err fault) = Err fault

-- what a text without spaces at its beginning means
unfoldable pub unindented : List ℕ → Result Line LineFault
unindented [] = Ok BlankLine
unindented (b ∷ text) = record_line (record_of (parts_of (b ∷ text)))

-- what a line's bytes mean
unfoldable pub meaning : List ℕ → Result Line LineFault
meaning [] = Ok BlankLine
meaning (b ∷ text) = if b == comment_mark then Ok CommentLine else unindented (without_spaces (b ∷ text))

-- what a line was read as, with its bytes
abbrev pub read_as : Result LineRead LineFault → Result Line LineFault
read_as (Ok l) = Ok (line_of l)
read_as (Err fault) = Err fault

-- the parts that were found, with their bytes
abbrev pub written_as : Parts → Written
written_as parts = record {
  vxid = parts.vxid.now;
  name = parts.name.now;
  mark = parts.mark;
  payload = parts.payload.now;
}
