use Rattle.std.proofs.Common.{◌∙◌, arith}
use Rattle.query_eval.specs.Meaning.{group_satisfies}
use Rattle.query_eval.proofs.AskerLemmas.{same_tests, test_asked}
use Rattle.query_eval.proofs.asker.ask_all.Goals as goal

pub returns-in_err-ask-clause-tests : goal.returns-in_err-ask-clause-tests
returns-in_err-ask-clause-tests c = same_tests (λ a. a.test.now) _ _ c.loop-asked.asked-index c.asked-item.result _ c.loop-asked.invariant.tests c.ask.ensures.test

pub returns-in_err-push-clause-tests : goal.returns-in_err-push-clause-tests
returns-in_err-push-clause-tests c = same_tests (λ a. a.test.now) _ _ c.loop-asked.asked-index c.asked-item.result _ c.loop-asked.invariant.tests c.ask.ensures.test

-- the truth of one test more was added
pub loop-asked-preserved : goal.loop-asked-preserved
loop-asked-preserved c = record {
  tests = same_tests (λ a. a.test.now) _ _ c.loop-asked.asked-index c.asked-item.result _ c.loop-asked.invariant.tests c.ask.ensures.test;
  truths = c.in_ok-push.ensures.items ∙ test_asked (λ a. a.test.now) (group_satisfies c.args.group.now) _ _ c.loop-asked.asked-index c.asked-item.result _ _ c.loop-asked.invariant.tests (omega (arith, c.loop-asked-test.true)) c.in_ok-ask.ensures.answer c.loop-asked.invariant.truths;
}
