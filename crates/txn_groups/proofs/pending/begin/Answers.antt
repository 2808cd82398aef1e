use Rattle.std.proofs.lemmas.Result.{on_ok_weaker}
use Rattle.txn_groups.proofs.MarkedLemmas.{keep_then}
use Rattle.txn_groups.proofs.pending.begin.Goals as goal

pub returns-clause-marks : goal.returns-clause-marks
returns-clause-marks c = λ held.
    on_ok_weaker c.begin_node.result (keep_then c.args.pending.now.nodes.items c.keep_order.new.pending.nodes.items c.begin_node.new.pending.nodes.items c.keep_order.ensures.marks) (c.begin_node.ensures.marks (c.keep_order.ensures.went held).kept)
