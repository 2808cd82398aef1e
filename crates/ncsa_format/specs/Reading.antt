-- What the text of a format is read as: pieces, or the place of its first fault (varnishncsa(1), "FORMAT"). `Format` says what texts are; the laws join the two.
use Rattle.std.specs.Prelude.{ℕ, zero, suc, ◌+◌, ◌-◌, ◌==◌, if◌then◌else◌, Bool, List, [], ◌∷◌, length, take, drop, Option, Some, None, option_map, Result, Ok, Err, codes}
use Rattle.std.specs.List.{position_or_len, starts_with}
use Rattle.std.specs.Prelude.{nat_eq, option_and_then}
use Rattle.std.specs.Str.{bytes_eq}
use Rattle.vsl_decimal.specs.Prefix.{colon}
use Rattle.vsl_decimal.specs.Whole.{whole_number}
use Rattle.vsl_tags.specs.Called.{tag_called}
use Rattle.ncsa_format.specs.Formatter.{percent, brace, bracket}
use Rattle.ncsa_format.specs.declared.formatter.Formatter.{Formatter}
use Rattle.ncsa_format.specs.declared.formatter.Formatter.TheVariants.{Host, LogName, User, Stamp, Time, RequestLine, Method, Path, Query, Protocol, Status, Bytes, Received, Sent, RequestHeader, ResponseHeader, Micros, Seconds, FirstByte, HitMiss, Handling, Mark, Vxid, LogKey, TagPart}
use Rattle.ncsa_format.specs.declared.formatter.Piece.{Piece}
use Rattle.ncsa_format.specs.declared.formatter.Piece.TheVariants.{Byte, Value}
use Rattle.ncsa_format.specs.declared.formatter.TimeForm.{TimeForm}
use Rattle.ncsa_format.specs.declared.formatter.TimeForm.TheVariants as forms
use Rattle.ncsa_format.specs.declared.formatter.TimePart.{TimePart}
use Rattle.ncsa_format.specs.declared.formatter.TimePart.TheVariants as parts

-- the part of a time that a letter behind a percent sign names
abbrev pub part_named : ℕ → Option TimePart
part_named b =
    if b == 37 then Some (parts.Byte 37) else
    (if b == 89 then Some parts.Year else
    (if b == 109 then Some parts.Month else
    (if b == 100 then Some parts.Day else
    (if b == 101 then Some parts.SpacedDay else
    (if b == 72 then Some parts.Hour else
    (if b == 77 then Some parts.Minute else
    (if b == 83 then Some parts.Second else
    (if b == 98 then Some parts.MonthName else
    (if b == 70 then Some parts.Date else
    (if b == 84 then Some parts.Clock else
    (if b == 122 then Some parts.Zone else None)))))))))))

-- one before others
abbrev pub onto : {A : Type 0} → Option A → Option (List A) → Option (List A)
onto None rest = None
onto (Some x) None = None
onto (Some x) (Some xs) = Some (x ∷ xs)

-- the parts of a text with directives
abbrev pub time_parts : List ℕ → Option (List TimePart)
time_parts [] = Some []
time_parts (b ∷ []) = if b == percent then None else Some (parts.Byte b ∷ [])
time_parts (b ∷ c ∷ text) = if b == percent then onto (part_named c) (time_parts text) else onto (Some (parts.Byte b))
    (time_parts (c ∷ text))

-- the form of a time that a name asks for
abbrev pub form_named : List ℕ → Option TimeForm
form_named name =
    if bytes_eq name (codes "sec") then Some forms.Seconds else
    (if bytes_eq name (codes "msec") then Some forms.Millis else
    (if bytes_eq name (codes "usec") then Some forms.Micros else
    (if bytes_eq name (codes "msec_frac") then Some forms.MillisPart else
    (if bytes_eq name (codes "usec_frac") then Some forms.MicrosPart else
    option_map forms.Text (time_parts name)))))

-- the number that digits write, where it is from 1 to 9,999
abbrev pub field_number : List ℕ → Option ℕ
field_number = whole_number 1 9999

-- a text without its last byte, where that is this one
abbrev pub before_last : ℕ → List ℕ → Option (List ℕ)
before_last b [] = None
before_last b (c ∷ []) = if b == c then Some [] else None
before_last b (c ∷ d ∷ text) = option_map (λ front. c ∷ front) (before_last b (d ∷ text))

-- the field that what stands behind a prefix asks for: nothing stands there, or a number in brackets
abbrev pub field_asked : List ℕ → Option (Option ℕ)
field_asked [] = Some None
field_asked (b ∷ text) = option_map Some (option_and_then field_number (before_last 93 text))

-- the prefix that what stands behind a tag asks for: nothing stands there, or a colon and the prefix
abbrev pub prefix_asked : List ℕ → Option (List ℕ)
prefix_asked [] = None
prefix_asked (b ∷ text) = Some text

-- the part of a record with these parts, where they are good
abbrev pub tag_part : Option ℕ → Option (List ℕ) → Option (Option ℕ) → Option Formatter
tag_part None prefix field = None
tag_part (Some tag) prefix None = None
tag_part (Some tag) prefix (Some field) = Some (TagPart tag prefix field)

-- the part of a record that a text asks for: the field stands from the first `[` on, and the prefix before it, from the first `:` on
abbrev pub part_asked : List ℕ → Option Formatter
part_asked text =
    let at = position_or_len (λ b. b == bracket) text in
    let behind = position_or_len (λ b. b == colon) (take at text) in
    tag_part (tag_called (take behind text)) (prefix_asked (drop behind (take at text))) (field_asked (drop at text))

-- whether a text begins with another
abbrev pub begins : List ℕ → List ℕ → Bool
begins text first = starts_with nat_eq text first

-- the formatter of a name before `x` that asks for records by a key or by a tag
abbrev pub record_named : List ℕ → Option Formatter
record_named name = if begins name (codes "VCL_Log:") then Some (LogKey (drop 8 name)) else (if begins name (codes "VSL:") then part_asked (drop 4 name) else None)

-- the formatter of a name before `x`
abbrev pub extra_named : List ℕ → Option Formatter
extra_named name =
    if bytes_eq name (codes "Varnish:time_firstbyte") then Some FirstByte else
    (if bytes_eq name (codes "Varnish:hitmiss") then Some HitMiss else
    (if bytes_eq name (codes "Varnish:handling") then Some Handling else
    (if bytes_eq name (codes "Varnish:side") then Some Mark else
    (if bytes_eq name (codes "Varnish:vxid") then Some Vxid else
    record_named name))))

-- the formatter of a name in braces and the letter behind them
abbrev pub formatter_named : List ℕ → ℕ → Option Formatter
formatter_named name letter =
    if letter == 105 then Some (RequestHeader name) else
    (if letter == 111 then Some (ResponseHeader name) else
    (if letter == 116 then option_map Time (form_named name) else
    (if letter == 120 then extra_named name else None)))

-- the formatter of a letter
abbrev pub formatter_lettered : ℕ → Option Formatter
formatter_lettered b =
    if b == 104 then Some Host else
    (if b == 108 then Some LogName else
    (if b == 117 then Some User else
    (if b == 116 then Some Stamp else
    (if b == 114 then Some RequestLine else
    (if b == 109 then Some Method else
    (if b == 85 then Some Path else
    (if b == 113 then Some Query else
    (if b == 72 then Some Protocol else
    (if b == 115 then Some Status else
    (if b == 98 then Some Bytes else
    (if b == 73 then Some Received else
    (if b == 79 then Some Sent else
    (if b == 68 then Some Micros else
    (if b == 84 then Some Seconds else None))))))))))))))

-- something read, with what stands behind it
abbrev pub with_rest : {A : Type 0} → List ℕ → Option A → Option (A × List ℕ)
with_rest rest None = None
with_rest rest (Some x) = Some (x, rest)

-- what a name in braces and what stands behind the closing one are read as
abbrev pub behind_name : List ℕ → List ℕ → Option (Formatter × List ℕ)
behind_name name [] = None
behind_name name (letter ∷ rest) = with_rest rest (formatter_named name letter)

-- the formatter with which a text begins, behind its percent sign, and what stands behind it
abbrev pub formatter_at : List ℕ → Option (Formatter × List ℕ)
formatter_at [] = None
formatter_at (b ∷ text) =
    if b == 123
    then (let at = position_or_len (λ c. c == brace) text in behind_name (take at text) (drop (at + 1) text))
    else with_rest text (formatter_lettered b)

-- a formatter as a piece
abbrev pub as_piece : Option (Formatter × List ℕ) → Option (Piece × List ℕ)
as_piece None = None
as_piece (Some found) = Some (Value found.0, found.1)

-- the piece that a percent sign begins: a second one is the sign itself
abbrev pub behind_percent : List ℕ → Option (Piece × List ℕ)
behind_percent [] = None
behind_percent (b ∷ text) = if b == percent then Some (Byte percent, text) else as_piece (formatter_at (b ∷ text))

-- the piece that a backslash begins: a line feed before `n`, a tab before `t`, and else itself
abbrev pub behind_backslash : List ℕ → Piece × List ℕ
behind_backslash [] = (Byte 92, [])
behind_backslash (b ∷ text) = if b == 110 then (Byte 10, text)
    else (if b == 116 then (Byte 9, text) else (Byte 92, b ∷ text))

-- the piece that a byte begins before a text, and what stands behind it
abbrev pub piece_at : ℕ → List ℕ → Option (Piece × List ℕ)
piece_at b text = if b == percent then behind_percent text
    else (if b == 92 then Some (behind_backslash text) else Some (Byte b, text))

-- a piece before those of the rest
abbrev pub before : Piece → Result (List Piece) ℕ → Result (List Piece) ℕ
before piece (Ok pieces) = Ok (piece ∷ pieces)
before piece (Err left) = Err left

-- a piece and those that are read of the rest; where no piece begins, so many bytes are left
abbrev pub then_read : (List ℕ → Result (List Piece) ℕ) → ℕ → Option (Piece × List ℕ) → Result (List Piece) ℕ
then_read read left None = Err left
then_read read left (Some found) = before found.0 (read found.1)

-- the pieces of a text, at most so many of them read, or how many bytes are left where none begins
unfoldable pub read_most : ℕ → List ℕ → Result (List Piece) ℕ
read_most n [] = Ok []
read_most zero (b ∷ text) = Err (suc (length text))
read_most (suc n) (b ∷ text) = then_read (read_most n) (suc (length text)) (piece_at b text)

-- the same of all of a text; each piece has a byte or more
abbrev pub read_pieces : List ℕ → Result (List Piece) ℕ
read_pieces text = read_most (length text) text

-- the pieces that were read
abbrev pub pieces_read : Result (List Piece) ℕ → List Piece
pieces_read (Ok pieces) = pieces
pieces_read (Err left) = []

-- the pieces of a format; a text that is no format has none
abbrev pub pieces_of : List ℕ → List Piece
pieces_of text = pieces_read (read_pieces text)

-- the place at which reading a text of so many bytes stopped, where it did
abbrev pub fault_read : ℕ → Result (List Piece) ℕ → Option ℕ
fault_read count (Ok pieces) = None
fault_read count (Err left) = Some (count - left)

-- the first fault of a text that is no format: the place of the percent sign that begins no formatter
abbrev pub format_fault : List ℕ → Option ℕ
format_fault text = fault_read (length text) (read_pieces text)
