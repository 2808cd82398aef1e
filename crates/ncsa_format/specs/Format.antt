-- What the text of a format is, and its first fault (varnishncsa(1), "FORMAT"; the default format, and what a backslash is before other bytes, are this project's choice).
use Rattle.std.specs.Prelude.{◌≡◌, ◌≢◌, ◌⊎◌, ℕ, List, [], ◌∷◌, ◌++◌, length, Some, codes}
use Rattle.ncsa_format.specs.Formatter.{percent, IsWritten}
use Rattle.ncsa_format.specs.declared.formatter.Piece.{Piece}
use Rattle.ncsa_format.specs.declared.formatter.Piece.TheVariants.{Byte, Value}
use Rattle.ncsa_format.specs.Reading.{format_fault}
use Rattle.ncsa_format.specs.declared.fault.FormatFault.{FormatFault}
use Rattle.ncsa_format.specs.declared.fault.FormatFault.TheVariants.{BadFormat, NoMemory}
use Rattle.ncsa_format.specs.declared.formatter.Formatter.{Formatter}

-- a text doesn't begin with a backslash and one of `n` and `t`
abbrev pub NoEscape : List ℕ → Type 0
NoEscape text = (rest : List ℕ) → (text ≢ codes "\\n" ++ rest) × (text ≢ codes "\\t" ++ rest)

-- a byte of text as it is written before the rest of a format: `%%` is a percent sign, a backslash before `n` and `t` a
-- line feed and a tab, every other byte is itself. A format is read once, from the left: so `\\n` is a backslash and a
-- line feed
abbrev pub IsByteAt : ℕ → List ℕ → List ℕ → Type 0
IsByteAt b text rest =
    ((b ≡ percent) × (text ≡ codes "%%" ++ rest))
    ⊎ (((b ≡ 10) × (text ≡ codes "\\n" ++ rest))
    ⊎ (((b ≡ 9) × (text ≡ codes "\\t" ++ rest))
    ⊎ ((b ≢ percent) × (text ≡ b ∷ rest) × NoEscape text)))

-- a piece as it is written before the rest of a format
abbrev pub IsPieceAt : Piece → List ℕ → List ℕ → Type 0
IsPieceAt (Byte b) text rest = IsByteAt b text rest
IsPieceAt (Value f) text rest = (written : List ℕ) × IsWritten f written × (text ≡ percent ∷ written ++ rest)

-- the text is a format of these pieces
abbrev pub IsFormat : List Piece → List ℕ → Type 0
IsFormat [] text = text ≡ []
IsFormat (piece ∷ pieces) text = (rest : List ℕ) × IsPieceAt piece text rest × IsFormat pieces rest

-- the first percent sign that begins no formatter stands at this place: what stands before it is a format, and neither
-- a formatter nor a percent sign stands behind it. A formatter is taken whole or not at all, so that is the place, too,
-- where what is wrong stands inside its braces
pub record IsFaultAt (text : List ℕ) (at : ℕ) : Type 0 where
  pub before : List ℕ
  pub behind : List ℕ
  pub parts : text ≡ before ++ percent ∷ behind
  pub place : at ≡ length before
  pub pieces : List Piece
  pub is_format : IsFormat pieces before
  pub no_formatter : (f : Formatter) (written rest : List ℕ) → IsWritten f written → behind ≢ written ++ rest
  pub no_percent : (rest : List ℕ) → behind ≢ percent ∷ rest

-- the format that is used where none is given
abbrev pub default_format : List ℕ
default_format = codes "%h %l %u %t \"%r\" %s %b \"%{Referer}i\" \"%{User-agent}i\""

-- why a text is refused: it has this fault, with which reading ends too; want of memory has no cause
abbrev pub HasFault : List ℕ → FormatFault → Type 0
HasFault text (BadFormat at) = IsFaultAt text at × (format_fault text ≡ Some at)
HasFault text NoMemory = Unit {0}
