use Rattle.std.proofs.Common.{ap, ◌∙◌}
use Rattle.query_eval.specs.Marks.{truth_of}
use Rattle.query_eval.proofs.MarkLemmas.{holds_of}
use Rattle.query_eval.proofs.answer.Answer.value.Goals as goal

-- the truths are those of the query's tests
pub returns-else-query-clause-group : goal.returns-else-query-clause-group
returns-else-query-clause-group c = λ group is.
    c.truth_of.ensures ∙ ap truth_of (rw (c.deref.ensures.value, c.as_slice.ensures) at c.new.ensures)
    ∙ holds_of c.args.query.now group c.self.inside.truths.items c.if-query.false (c.self.view_is ∙ is)
