use Rattle.std.proofs.Common.{arith}
use Rattle.txn_rows.specs.Grouping.{timed}
use Rattle.txn_groups.proofs.ToldLemmas.{told_set, told_past}
use Rattle.txn_groups.proofs.raise.time_at.Goals as goal

pub returns-then-place-len : goal.returns-then-place-len
returns-then-place-len c = told_set (timed c.args.now) c.args.place c.args.nodes.now.items c.index_mut.result.now c.time_node.new.node (omega (arith, c.if-place-len.true, c.len.ensures)) c.index_mut.ensures.value c.time_node.ensures

pub returns-else-place-len : goal.returns-else-place-len
returns-else-place-len c = told_past (timed c.args.now) c.args.place c.args.nodes.now.items (omega (arith, c.if-place-len.false, c.len.ensures))
