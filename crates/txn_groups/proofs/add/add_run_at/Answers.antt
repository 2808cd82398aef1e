use Rattle.std.proofs.Common.{arith}
use Rattle.txn_rows.specs.Transaction.{longer_by}
use Rattle.txn_groups.proofs.ToldLemmas.{told_set, told_past}
use Rattle.txn_groups.proofs.add.add_run_at.Goals as goal

pub returns-in_ok-add_records : goal.returns-in_ok-add_records
returns-in_ok-add_records c = told_set (longer_by c.args.run.now) c.args.place c.args.nodes.now.items c.index_mut.result.now c.add_records.new.node (omega (arith, c.if-place-len.true, c.len.ensures)) c.index_mut.ensures.value c.in_ok-add_records.ensures

pub returns-else-place-len : goal.returns-else-place-len
returns-else-place-len c = told_past (longer_by c.args.run.now) c.args.place c.args.nodes.now.items (omega (arith, c.if-place-len.false, c.len.ensures))
