-- How the formatters of a format are written (varnishncsa(1), "FORMAT"; what an unknown name is, and the directives of times, are this project's choice).
use Rattle.std.specs.Prelude.{◌≡◌, ◌≢◌, ℕ, ◌==◌, ◌≤◌, if◌then◌else◌, false, List, [], ◌∷◌, ◌++◌, length, Option, Some, None, codes}
use Rattle.std.specs.List.{flat_map, list_any}
use Rattle.std.specs.Str.Parse.{AllDigits, digits_value}
use Rattle.vsl_tags.specs.Called.{IsTagName}
use Rattle.ncsa_format.specs.declared.formatter.Formatter.{Formatter}
use Rattle.ncsa_format.specs.declared.formatter.Formatter.TheVariants.{Host, LogName, User, Stamp, Time, RequestLine, Method, Path, Query, Protocol, Status, Bytes, Received, Sent, RequestHeader, ResponseHeader, Micros, Seconds, FirstByte, HitMiss, Handling, Mark, Vxid, LogKey, TagPart}
use Rattle.ncsa_format.specs.declared.formatter.TimeForm.{TimeForm}
use Rattle.ncsa_format.specs.declared.formatter.TimeForm.TheVariants as forms
use Rattle.ncsa_format.specs.declared.formatter.TimePart.{TimePart}
use Rattle.ncsa_format.specs.declared.formatter.TimePart.TheVariants as parts

-- the byte that begins a formatter, `%`
abbrev pub percent : ℕ
percent = 37

-- the byte that closes a name, `}`
abbrev pub brace : ℕ
brace = 125

-- the byte before a field, `[`
abbrev pub bracket : ℕ
bracket = 91

-- a name between braces: the first `}` closes it
abbrev pub IsName : List ℕ → Type 0
IsName name = list_any (λ b. b == brace) name ≡ false

-- what is written in braces, and the letter behind them
abbrev pub braced : List ℕ → List ℕ → List ℕ
braced name letter = codes "{" ++ name ++ codes "}" ++ letter

-- how a part of a time is written. The directives are those that name a time without a zone or a language
abbrev pub written_part : TimePart → List ℕ
written_part (parts.Byte b) = if b == percent then codes "%%" else b ∷ []
written_part parts.Year = codes "%Y"
written_part parts.Month = codes "%m"
written_part parts.Day = codes "%d"
written_part parts.SpacedDay = codes "%e"
written_part parts.Hour = codes "%H"
written_part parts.Minute = codes "%M"
written_part parts.Second = codes "%S"
written_part parts.MonthName = codes "%b"
written_part parts.Date = codes "%F"
written_part parts.Clock = codes "%T"
written_part parts.Zone = codes "%z"

-- the words for a time as a number are not texts of directives
pub record IsTimeText (text : List ℕ) : Type 0 where
  pub sec : text ≢ codes "sec"
  pub msec : text ≢ codes "msec"
  pub usec : text ≢ codes "usec"
  pub msec_frac : text ≢ codes "msec_frac"
  pub usec_frac : text ≢ codes "usec_frac"

-- how the form of a time is written: one of five words, or a text with directives
abbrev pub IsForm : TimeForm → List ℕ → Type 0
IsForm forms.Seconds text = text ≡ codes "sec"
IsForm forms.Millis text = text ≡ codes "msec"
IsForm forms.Micros text = text ≡ codes "usec"
IsForm forms.MillisPart text = text ≡ codes "msec_frac"
IsForm forms.MicrosPart text = text ≡ codes "usec_frac"
IsForm (forms.Text all) text = (text ≡ flat_map written_part all) × IsTimeText text

-- how a prefix is written, where there is one: it has no `[`
abbrev pub IsPrefixPart : Option (List ℕ) → List ℕ → Type 0
IsPrefixPart None text = text ≡ []
IsPrefixPart (Some prefix) text = (text ≡ codes ":" ++ prefix) × (list_any (λ b. b == bracket) prefix ≡ false)

-- how a field is written, where there is one: digits that write a number from 1 to 9,999
abbrev pub IsFieldPart : Option ℕ → List ℕ → Type 0
IsFieldPart None text = text ≡ []
IsFieldPart (Some n) text =
    (digits : List ℕ) × (text ≡ codes "[" ++ digits ++ codes "]") × AllDigits 10 digits × (1 ≤ length digits) × (digits_value 10 digits ≡ n) × (1 ≤ n) × (n ≤ 9999)

-- how a part of a record is written: a tag, a prefix and a field. The tag is no glob and no list, since a formatter
-- prints one record
pub record IsTagPart (tag : ℕ) (prefix : Option (List ℕ)) (field : Option ℕ) (text : List ℕ) : Type 0 where
  pub tag_text : List ℕ
  pub prefix_text : List ℕ
  pub field_text : List ℕ
  pub is_tag : IsTagName tag tag_text
  pub is_prefix : IsPrefixPart prefix prefix_text
  pub is_field : IsFieldPart field field_text
  pub parts : text ≡ tag_text ++ prefix_text ++ field_text

-- how a formatter is written, behind its percent sign
abbrev pub IsWritten : Formatter → List ℕ → Type 0
IsWritten Host text = text ≡ codes "h"
IsWritten LogName text = text ≡ codes "l"
IsWritten User text = text ≡ codes "u"
IsWritten Stamp text = text ≡ codes "t"
IsWritten (Time form) text = (name : List ℕ) × (text ≡ braced name (codes "t")) × IsName name × IsForm form name
IsWritten RequestLine text = text ≡ codes "r"
IsWritten Method text = text ≡ codes "m"
IsWritten Path text = text ≡ codes "U"
IsWritten Query text = text ≡ codes "q"
IsWritten Protocol text = text ≡ codes "H"
IsWritten Status text = text ≡ codes "s"
IsWritten Bytes text = text ≡ codes "b"
IsWritten Received text = text ≡ codes "I"
IsWritten Sent text = text ≡ codes "O"
IsWritten (RequestHeader name) text = (text ≡ braced name (codes "i")) × IsName name
IsWritten (ResponseHeader name) text = (text ≡ braced name (codes "o")) × IsName name
IsWritten Micros text = text ≡ codes "D"
IsWritten Seconds text = text ≡ codes "T"
IsWritten FirstByte text = text ≡ codes "{Varnish:time_firstbyte}x"
IsWritten HitMiss text = text ≡ codes "{Varnish:hitmiss}x"
IsWritten Handling text = text ≡ codes "{Varnish:handling}x"
IsWritten Mark text = text ≡ codes "{Varnish:side}x"
IsWritten Vxid text = text ≡ codes "{Varnish:vxid}x"
IsWritten (LogKey key) text = (text ≡ braced (codes "VCL_Log:" ++ key) (codes "x")) × IsName key
IsWritten (TagPart tag prefix field) text = (part : List ℕ) × (text ≡ braced (codes "VSL:" ++ part) (codes "x")) × IsName part × IsTagPart tag prefix field part
