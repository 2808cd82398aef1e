-- The bytes below the index are those at the beginning of what was left.
use Rattle.std.proofs.Common.{◌≡◌, take}
use Rattle.vio.specs.Sources.{left_of}
use Rattle.vio.proofs.file.Source.take_piece.Given as goal

abbrev pub invariant-loop-i : goal.invariant-loop-i
invariant-loop-i l = take l.i l.buf ≡ take l.i (left_of l.self)
