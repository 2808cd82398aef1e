use Rattle.std.proofs.Common.{◌≡◌, Bool, subst}
use Rattle.std.specs.Result.{IfOk}
use Rattle.query_eval.proofs.MarkLemmas.{one_test}
use Rattle.query_eval.proofs.eval.holds.Goals as goal

-- the query is one test
pub returns-in-Some-clause-answer : goal.returns-in-Some-clause-answer
returns-in-Some-clause-answer c =
    let one = rw c.deref.ensures.value at c.in-Some.ensures.some in
    subst (λ (x : Bool). IfOk c.group_satisfies.result (λ b. b ≡ x)) (one_test c.args.query.now c.args.group.now c.in-Some.test.now c.if-query.false one) c.group_satisfies.ensures.answer
