-- what was added and what is still to be added are the text as it is printed
use Rattle.std.proofs.Common.{◌≡◌, ◌++◌, length}
use Rattle.std.specs.List.{flat_map}
use Rattle.log_model.specs.Prefix.{IsPrefix}
use Rattle.log_model.proofs.escaping.put_with_escapes.Given as goal

abbrev pub invariant-loop-rest : goal.invariant-loop-rest
invariant-loop-rest g l = record {
  text : l.out.items ++ flat_map g.E.Escapes.printed l.rest ≡ l.initial.out.items ++ flat_map g.E.Escapes.printed l.text;
  keeps : IsPrefix l.initial.out.items l.out.items;
}

abbrev pub decreases-loop-rest : goal.decreases-loop-rest
decreases-loop-rest g l = length l.rest
