use Rattle.std.proofs.Common.{Bool, List, ap, sym, ◌∙◌}
use Rattle.std.specs.List.{list_any}
use Rattle.query_parser.specs.declared.test.Test.{Test}
use Rattle.query_eval.specs.Meaning.{record_marks}
use Rattle.query_eval.specs.Marks.{tests_of}
use Rattle.query_eval.proofs.AskerLemmas.{any_said}
use Rattle.query_eval.proofs.MarkLemmas.{unseen_more}
use Rattle.query_eval.proofs.asker.Asker.sees.Goals as goal

-- the tests are those of the query
pub returns-clause-answer : goal.returns-clause-answer
returns-clause-answer g c =
    let says = λ (test : Test). list_any (record_marks test) (g.M.Marking.records c.args.marking.now) in
    rw c.deref_mut.ensures.value at c.in_ok-sees_any.ensures.answer
    ∙ ap (list_any (λ truth. truth)) (c.args.self.now.same says)
    ∙ any_said says (tests_of c.args.self.now.query.now)

pub returns-clause-unseen : goal.returns-clause-unseen
returns-clause-unseen g c = λ records none.
    let more = g.M.Marking.records c.args.marking.now in
    let says = λ (test : Test). list_any (record_marks test) more in
    let asked = rw c.deref_mut.ensures.value at c.in_ok-sees_any.ensures.answer in
    unseen_more (tests_of c.args.self.now.query.now) records more (sym (asked ∙ ap (list_any (λ truth. truth)) (c.args.self.now.same says)) ∙ none)
