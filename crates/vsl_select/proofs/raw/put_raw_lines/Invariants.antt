-- the raw lines of the records so far were added
use Rattle.std.proofs.Common.{◌≡◌, ◌++◌, take}
use Rattle.std.specs.List.{flat_map}
use Rattle.vsl_select.specs.RawLine.{raw_line}
use Rattle.vsl_select.proofs.raw.put_raw_lines.Given as goal

abbrev pub invariant-loop-i : goal.invariant-loop-i
invariant-loop-i l = l.out.items ≡ l.initial.out.items ++ flat_map (raw_line l.vxid) (take l.i l.records)
