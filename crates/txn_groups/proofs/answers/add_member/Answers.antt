use Rattle.txn_groups.proofs.AnswerLemmas.{answered_unmarked}
use Rattle.txn_groups.proofs.answers.add_member.Goals as goal

-- a node that has no marks changes no answer
pub returns-in_default : goal.returns-in_default
returns-in_default c = λ members marked answered. answered_unmarked c.args.query.now c.args.place c.args.level c.args.node.now members _ c.in_default.ensures.none marked answered
