-- whether a byte so far has an escape
use Rattle.std.proofs.Common.{◌≡◌, take}
use Rattle.std.specs.List.{list_any}
use Rattle.log_model.proofs.escaping.any_has_escape.Given as goal

abbrev pub invariant-loop-byte : goal.invariant-loop-byte
invariant-loop-byte g l = l.found ≡ list_any g.E.Escapes.escapes (take l.byte-index l.bytes)
