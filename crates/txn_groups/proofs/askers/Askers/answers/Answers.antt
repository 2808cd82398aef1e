use Rattle.std.proofs.Common.{◌<◌, List, length, ◌∙◌, arith}
use Rattle.query_eval.specs.declared.asker.Asker.{Asker}
use Rattle.txn_groups.specs.inside.Walked.{visited_group}
use Rattle.txn_groups.proofs.AnswerLemmas.{marked_for, answers_more}
use Rattle.txn_groups.proofs.askers.Askers.answers.Goals as goal

pub loop-i-preserved : goal.loop-i-preserved
loop-i-preserved c = λ standing marked.
    let all : List Asker = c.args.self.now.all.items in
    let a : Asker = c.index.result.now in
    let within : c.loop-i.i < length all = omega (arith, c.loop-i-test.true, c.len-i-end.ensures) in
    let told = rw c.query.ensures at c.in_ok-holds.ensures in
    c.in_ok-push.ensures
    ∙ answers_more all (visited_group c.args.nodes.now c.args.visits.now) c.loop-i.i a c.loop-i.truths c.in_ok-holds.holds within c.index.ensures
    (told standing (marked_for all c.args.nodes.now c.loop-i.i a within c.index.ensures marked)) (c.loop-i.invariant standing marked)
