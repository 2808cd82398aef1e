use Rattle.std.proofs.Common.{◌∙◌, arith}
use Rattle.query_eval.specs.Asker.{asker_query}
use Rattle.txn_groups.proofs.AskersLemmas.{same_queries, unseen_next}
use Rattle.txn_groups.proofs.asking.see_any.Goals as goal

pub returns-in_err-sees-clause-same : goal.returns-in_err-sees-clause-same
returns-in_err-sees-clause-same g c = same_queries asker_query _ _ c.loop-i.i c.index-askers-i.result _ c.loop-i.invariant.same c.sees.ensures.same

pub returns-then-branch-clause-same : goal.returns-then-branch-clause-same
returns-then-branch-clause-same g c = same_queries asker_query _ _ c.loop-i.i c.index-askers-i.result _ c.loop-i.invariant.same c.sees.ensures.same

-- no test of the query at the index is satisfied
pub loop-i-preserved : goal.loop-i-preserved
loop-i-preserved g c = record {
  same = same_queries asker_query _ _ c.loop-i.i c.index-askers-i.result _ c.loop-i.invariant.same c.sees.ensures.same;
  unseen = λ records. unseen_next asker_query c.loop-i.askers c.args.askers.now c.loop-i.i c.index-askers-i.result records (g.M.Marking.records c.args.marking.now) c.loop-i.invariant.same (omega (arith, c.loop-i-test.true)) (c.in_ok-sees.ensures.unseen records c.if-branch.false) (c.loop-i.invariant.unseen records);
}
