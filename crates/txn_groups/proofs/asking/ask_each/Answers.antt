use Rattle.std.proofs.Common.{◌∙◌, arith}
use Rattle.query_eval.specs.Asker.{asker_query}
use Rattle.query_eval.specs.Meaning.{is_held}
use Rattle.txn_groups.proofs.AskersLemmas.{same_queries, asked_more}
use Rattle.txn_groups.proofs.asking.ask_each.Goals as goal

pub returns-in_err-holds-clause-same : goal.returns-in_err-holds-clause-same
returns-in_err-holds-clause-same c = same_queries asker_query _ _ c.loop-i.i c.index-askers-i.result _ c.loop-i.invariant.same c.holds.ensures.same

pub returns-in_err-push-clause-same : goal.returns-in_err-push-clause-same
returns-in_err-push-clause-same c = same_queries asker_query _ _ c.loop-i.i c.index-askers-i.result _ c.loop-i.invariant.same c.holds.ensures.same

-- one query more was asked
pub loop-i-preserved : goal.loop-i-preserved
loop-i-preserved c = record {
  same = same_queries asker_query _ _ c.loop-i.i c.index-askers-i.result _ c.loop-i.invariant.same c.holds.ensures.same;
  truths = c.in_ok-push.ensures ∙ asked_more asker_query (λ query. is_held query c.args.group.now) c.loop-i.askers c.args.askers.now c.loop-i.i c.index-askers-i.result _ _ c.loop-i.invariant.same (omega (arith, c.loop-i-test.true)) c.in_ok-holds.ensures.answer c.loop-i.invariant.truths;
}
