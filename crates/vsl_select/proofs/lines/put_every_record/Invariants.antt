-- the lines of the records so far were added
use Rattle.std.proofs.Common.{◌≡◌, ◌++◌, take}
use Rattle.std.specs.List.{flat_map}
use Rattle.vsl_select.specs.Lines.{record_line}
use Rattle.vsl_select.proofs.lines.put_every_record.Given as goal

abbrev pub invariant-loop-i : goal.invariant-loop-i
invariant-loop-i l = l.out.items ≡ l.initial.out.items ++ flat_map (record_line l.verbose l.member) (take l.i l.records)
