use Rattle.std.proofs.Common.{◌++◌, arith}
use Rattle.txn_groups.specs.inside.Marked.{queries_of}
use Rattle.txn_groups.proofs.MarkedLemmas.{remarked_set, remarked_past}
use Rattle.txn_groups.proofs.marking.mark_at.Goals as goal

pub returns-in_ok-add-clause-marks : goal.returns-in_ok-add-clause-marks
returns-in_ok-add-clause-marks g c =
    remarked_set c.args.place (queries_of c.args.askers.now) (g.M.Marking.records c.args.marking.now) c.args.nodes.now.items c.index_mut.result.now c.add.new.marks (omega (arith, c.if-place-len.true, c.len.ensures)) c.index_mut.ensures.value c.in_ok-add.ensures.marks

pub returns-else-place-len-clause-marks : goal.returns-else-place-len-clause-marks
returns-else-place-len-clause-marks g c = λ x records there are.
    remarked_past c.args.place (queries_of c.args.askers.now) (records ++ g.M.Marking.records c.args.marking.now) c.args.nodes.now.items (omega (arith, c.if-place-len.false, c.len.ensures))
