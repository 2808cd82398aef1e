use Rattle.std.proofs.Common.{take}
use Rattle.std.proofs.lemmas.List.{get_or_default}
use Rattle.txn_groups.specs.inside.Walked.{members_of}
use Rattle.txn_groups.proofs.AnswerLemmas.{answered_more}
use Rattle.txn_groups.proofs.TakenLemmas.{standing_at}
use Rattle.txn_groups.proofs.answers.answer_at.Goals as goal

pub loop-i-preserved : goal.loop-i-preserved
loop-i-preserved c = λ all marked.
    let s = standing_at c.args.nodes.now c.args.visits.now c.loop-i.i _ c.loop-i-test.true (get_or_default c.args.visits.now c.loop-i.i _ _ c.loop-i-test.true) all in
    answered_more c.args.query.now c.args.nodes.now c.args.visits.now c.loop-i.i _ c.add_visit.new.answer c.loop-i-test.true (get_or_default c.args.visits.now c.loop-i.i _ _ c.loop-i-test.true)
    (c.add_visit.ensures s.node (members_of c.args.nodes.now (take c.loop-i.i c.args.visits.now)) s.there marked (c.loop-i.invariant all marked))
