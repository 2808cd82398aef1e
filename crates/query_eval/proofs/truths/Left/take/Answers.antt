use Rattle.std.proofs.Common.{arith}
use Rattle.query_eval.proofs.TruthLemmas.{behind_length, test_taken, test_passed, not_taken, not_passed, and_taken, or_taken}
use Rattle.query_eval.proofs.truths.Left.take.Goals as goal

-- the operand behind a truth that decides its operator is passed over
pub returns-in-Some-clause-left : goal.returns-in-Some-clause-left
returns-in-Some-clause-left c = λ left so_far. test_passed c.in-Test.truth _ _ c.args.steps.now c.in-Some.behind left c.in-Some.ensures.some.0 c.in-Some.ensures.some.1 (rw c.in-Test.is at so_far)

pub returns-in-Some-clause-fewer : goal.returns-in-Some-clause-fewer
returns-in-Some-clause-fewer c = behind_length _ _ c.args.steps.now c.in-Some.behind c.in-Some.ensures.some.1

pub returns-in-Some-clause-passed : goal.returns-in-Some-clause-passed
returns-in-Some-clause-passed c = omega (arith, behind_length _ _ c.args.steps.now c.in-Some.behind c.in-Some.ensures.some.1)

-- another truth comes over one that doesn't decide its operator
pub returns-in_default-clause-left : goal.returns-in_default-clause-left
returns-in_default-clause-left c = λ left so_far. test_taken c.in-Test.truth _ _ c.args.steps.now left c.in_default.ensures.none (rw c.in-Test.is at so_far)

-- no truth has no contrary
pub returns-then-self-eq0-clause-left : goal.returns-then-self-eq0-clause-left
returns-then-self-eq0-clause-left c = λ left so_far. not_passed _ _ c.args.steps.now left c.if-self-eq0.true (rw c.in-Not.is at so_far)

pub returns-else-self-eq0-clause-left : goal.returns-else-self-eq0-clause-left
returns-else-self-eq0-clause-left c = λ left so_far. not_taken _ _ c.args.steps.now left (omega arith) (rw c.in-Not.is at so_far)

pub returns-in-And-clause-left : goal.returns-in-And-clause-left
returns-in-And-clause-left c = λ left so_far. and_taken _ _ _ _ c.args.steps.now left c.join.ensures.two c.join.ensures.fewer (rw c.in-And.is at so_far)

pub returns-in-Or-clause-left : goal.returns-in-Or-clause-left
returns-in-Or-clause-left c = λ left so_far. or_taken _ _ _ _ c.args.steps.now left c.join-in-Or.ensures.two c.join-in-Or.ensures.fewer (rw c.in-Or.is at so_far)
