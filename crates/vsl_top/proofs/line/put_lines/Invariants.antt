-- the texts of the lines so far were added
use Rattle.std.proofs.Common.{◌≡◌, ◌++◌, map, take}
use Rattle.std.specs.List.{flat_map}
use Rattle.vsl_top.specs.Report.{line_text}
use Rattle.vsl_top.specs.inside.Lines.{line_in}
use Rattle.vsl_top.proofs.line.put_lines.Given as goal

abbrev pub invariant-loop-line : goal.invariant-loop-line
invariant-loop-line l = l.out.items ≡ l.initial.out.items ++ flat_map line_text (map line_in (take l.line-index l.lines))
