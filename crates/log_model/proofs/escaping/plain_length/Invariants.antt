-- every byte so far is printed as it is
use Rattle.std.proofs.Common.{◌≡◌, take}
use Rattle.std.specs.List.{flat_map}
use Rattle.log_model.proofs.escaping.plain_length.Given as goal

abbrev pub invariant-loop-at : goal.invariant-loop-at
invariant-loop-at g l = flat_map g.E.Escapes.printed (take l.at l.bytes) ≡ take l.at l.bytes
