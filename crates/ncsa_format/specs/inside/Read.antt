-- What was read, with what stands behind it.
use Rattle.std.specs.Prelude.{ℕ, List, ◌++◌, Option, Some, None, option_map, Result, Ok, Err}
use Rattle.ncsa_format.specs.declared.formatter.Piece.{Piece}
use Rattle.ncsa_format.specs.Reading.{onto, time_parts}
use Rattle.ncsa_format.specs.declared.formatter.TimePart.{TimePart}
use Rattle.ncsa_format.specs.declared.reading.Read.{Read}

-- as the definitions of reading have it
abbrev pub as_read : {A : Type 0} → Read A → A × List ℕ
as_read r = (r.found, r.rest.now)

-- the same, where something was read
abbrev pub read_of : {A : Type 0} → Option (Read A) → Option (A × List ℕ)
read_of r = option_map as_read r

-- the parts of a text of which the first was read
abbrev pub parts_from : Option (TimePart × List ℕ) → Option (List TimePart)
parts_from None = None
parts_from (Some found) = onto (Some found.0) (time_parts found.1)

-- pieces that were read before what the rest is read as
abbrev pub all_before : List Piece → Result (List Piece) ℕ → Result (List Piece) ℕ
all_before pieces (Ok more) = Ok (pieces ++ more)
all_before pieces (Err left) = Err left
