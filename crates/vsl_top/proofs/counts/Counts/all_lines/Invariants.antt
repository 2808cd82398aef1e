-- the lines of the entries so far stand there
use Rattle.vsl_top.specs.inside.Lines.{AreLinesOf}
use Rattle.vsl_top.proofs.counts.Counts.all_lines.Given as goal

abbrev pub invariant-loop-i : goal.invariant-loop-i
invariant-loop-i l = AreLinesOf l.self.map.entries l.i l.lines.items
