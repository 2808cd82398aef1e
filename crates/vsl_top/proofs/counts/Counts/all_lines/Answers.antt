use Rattle.std.proofs.Common.{rules}
use Rattle.vsl_top.proofs.OrderLemmas.{lines_more}
use Rattle.vsl_top.proofs.counts.Counts.all_lines.Goals as goal

pub loop-i-preserved : goal.loop-i-preserved
loop-i-preserved c = lines_more c.args.self.now.map.entries c.loop-i.i c.loop-i.lines.items _ c.push.new.self.items c.loop-i.invariant c.line_at-line.ensures.line c.line_at-line.ensures.ranked
    (search (rules, c.push.ensures.items, c.if-is_err.ensures))
