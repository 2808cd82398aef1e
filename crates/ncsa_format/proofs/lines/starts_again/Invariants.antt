-- no record so far says that the request starts again
use Rattle.std.proofs.Common.{◌≡◌, false, take}
use Rattle.std.specs.List.{list_any}
use Rattle.ncsa_format.specs.Line.{is_restart}
use Rattle.ncsa_format.proofs.lines.starts_again.Given as goal

abbrev pub invariant-loop-i : goal.invariant-loop-i
invariant-loop-i l = list_any is_restart (take l.i l.records) ≡ false
