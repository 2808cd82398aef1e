-- the parts so far were added
use Rattle.std.proofs.Common.{◌≡◌, ◌++◌, take}
use Rattle.std.specs.List.{flat_map}
use Rattle.ncsa_format.specs.Civil.{part_text}
use Rattle.ncsa_format.specs.Line.{quoted}
use Rattle.ncsa_format.proofs.civil.put_parts.Given as goal

abbrev pub invariant-loop-part : goal.invariant-loop-part
invariant-loop-part l = l.out.items ≡ l.initial.out.items ++ quoted (flat_map (part_text l.second) (take l.part-index l.parts))
