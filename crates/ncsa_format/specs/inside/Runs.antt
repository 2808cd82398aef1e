-- The runs of a format: texts, and formatters between them.
use Rattle.std.specs.Prelude.{List, [], ◌∷◌, map}
use Rattle.std.specs.List.{flat_map}
use Rattle.ncsa_format.specs.declared.formatter.Piece.{Piece}
use Rattle.ncsa_format.specs.declared.formatter.Piece.TheVariants as pieces
use Rattle.ncsa_format.specs.declared.run.Run.{Run}
use Rattle.ncsa_format.specs.declared.run.Run.TheVariants.{Text, Value}

-- the pieces of a run: the bytes of its text, or its formatter
abbrev pub run_pieces : Run → List Piece
run_pieces (Text text) = map pieces.Byte text.items
run_pieces (Value f) = pieces.Value f ∷ []

-- the pieces of runs
abbrev pub pieces_in : List Run → List Piece
pieces_in runs = flat_map run_pieces runs
