-- the lines of the logged transactions so far were added
use Rattle.std.proofs.Common.{◌≡◌, ◌++◌, take}
use Rattle.std.specs.List.{filter, flat_map}
use Rattle.ncsa_format.specs.Line.{is_logged, line_of}
use Rattle.ncsa_format.proofs.consumer.put_lines.Given as goal

abbrev pub invariant-loop-member : goal.invariant-loop-member
invariant-loop-member l = l.out.items ≡ l.initial.out.items ++ flat_map (line_of l.format) (filter (is_logged l.sides) (take l.member-index l.member-items))
