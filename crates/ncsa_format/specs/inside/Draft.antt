-- What was read of a format.
use Rattle.std.specs.Prelude.{List, ◌++◌, map}
use Rattle.ncsa_format.specs.declared.formatter.Piece.{Piece}
use Rattle.ncsa_format.specs.declared.formatter.Piece.TheVariants as pieces
use Rattle.ncsa_format.specs.declared.run.Draft.{Draft}
use Rattle.ncsa_format.specs.inside.Runs.{pieces_in}

-- the pieces of a draft
abbrev pub drafted : Draft → List Piece
drafted d = pieces_in d.runs.items ++ map pieces.Byte d.text.items
