use Rattle.std.proofs.Common.{◌≤◌, length, map, ◌∙◌, arith}
use Rattle.std.proofs.lemmas.List.{length-map}
use Rattle.query_eval.specs.Asker.{asker_query}
use Rattle.txn_groups.proofs.AskersLemmas.{same_queries, marked_step, marked_whole}
use Rattle.txn_groups.proofs.asking.add_to_each.Goals as goal

pub returns-in_err-add-clause-same : goal.returns-in_err-add-clause-same
returns-in_err-add-clause-same g c = same_queries asker_query _ _ c.loop-i.i c.index-askers-i.result _ c.loop-i.invariant.same c.add.ensures.same

-- the marks for one query more
pub loop-i-preserved : goal.loop-i-preserved
loop-i-preserved g c = record {
  same = same_queries asker_query _ _ c.loop-i.i c.index-askers-i.result _ c.loop-i.invariant.same c.add.ensures.same;
  marks = λ records is. marked_step asker_query c.loop-i.askers (map asker_query c.args.askers.now) c.loop-i.i c.index-askers-i.result c.loop-i.marks.items c.index_mut.result.now c.add.new.marks records (g.M.Marking.records c.args.marking.now) c.loop-i.invariant.same (omega arith) c.index_mut.ensures.value c.in_ok-add.ensures.marks (c.loop-i.invariant.marks records is);
}

-- no query is left
pub returns-clause-marks : goal.returns-clause-marks
returns-clause-marks g c = λ records is.
    let queries = map asker_query c.args.askers.now in
    let past : length queries ≤ c.loop-i.i = omega (arith, length-map c.args.askers.now asker_query) in
    c.loop-i.invariant.marks records is ∙ marked_whole c.loop-i.i queries records (g.M.Marking.records c.args.marking.now) past
