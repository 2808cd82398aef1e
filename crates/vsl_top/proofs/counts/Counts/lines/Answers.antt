use Rattle.vsl_top.proofs.OrderLemmas.{report_lines}
use Rattle.vsl_top.proofs.counts.Counts.lines.Goals as goal

pub returns : goal.returns
returns c = λ keys so_far. report_lines c.names_differ.ensures.differ c.args.self.now.map.entries keys c.in_ok-lines.lines.items c.sort.new.self.items so_far.unique so_far.each c.in_ok-lines.ensures
    c.sort.ensures.permutation c.in_ok-sort.ensures.sorted
