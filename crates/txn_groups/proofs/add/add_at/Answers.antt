use Rattle.std.proofs.Common.{arith}
use Rattle.txn_rows.specs.inside.Rows.{with_one}
use Rattle.txn_groups.proofs.ToldLemmas.{told_set, told_past}
use Rattle.txn_groups.proofs.add.add_at.Goals as goal

pub returns-in_ok-add_record : goal.returns-in_ok-add_record
returns-in_ok-add_record c = told_set (with_one c.args.rec.now) c.args.place c.args.nodes.now.items c.index_mut.result.now c.add_record.new.node (omega (arith, c.if-place-len.true, c.len.ensures)) c.index_mut.ensures.value c.in_ok-add_record.ensures

pub returns-else-place-len : goal.returns-else-place-len
returns-else-place-len c = told_past (with_one c.args.rec.now) c.args.place c.args.nodes.now.items (omega (arith, c.if-place-len.false, c.len.ensures))
