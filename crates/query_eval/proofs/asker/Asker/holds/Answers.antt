use Rattle.std.proofs.Common.{ap, ◌∙◌}
use Rattle.query_eval.specs.Meaning.{group_satisfies}
use Rattle.query_eval.specs.Marks.{truth_of}
use Rattle.query_eval.proofs.MarkLemmas.{holds_of}
use Rattle.query_eval.proofs.asker.Asker.holds.Goals as goal

-- the truths are those of the query's tests
pub returns-clause-answer : goal.returns-clause-answer
returns-clause-answer c =
    let query = c.args.self.now.query.now in
    c.truth_of.ensures ∙ ap truth_of (rw (c.deref.ensures.value, c.deref-2.ensures.value) at c.new.ensures)
    ∙ holds_of query c.args.group.now c.ask_all.new.truths.items c.if-self.false
    (rw c.deref_mut.ensures.value at c.in_ok-ask_all.ensures.truths ∙ c.args.self.now.same (group_satisfies c.args.group.now))
