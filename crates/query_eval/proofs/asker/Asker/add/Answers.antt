use Rattle.std.proofs.Common.{Bool, List, length, map, ap, ◌∙◌}
use Rattle.std.specs.List.{list_any}
use Rattle.smallvec.proofs.SmallVecLemmas.{items-with_items}
use Rattle.query_parser.specs.declared.test.Test.{Test}
use Rattle.query_eval.specs.Meaning.{record_marks}
use Rattle.query_eval.specs.Marks.{tests_of}
use Rattle.query_eval.specs.inside.Truths.{joined}
use Rattle.query_eval.proofs.MarkLemmas.{marked_more}
use Rattle.query_eval.proofs.asker.Asker.add.Goals as goal

-- the marks are joined by what the records say of the query's tests
pub returns-clause-marks : goal.returns-clause-marks
returns-clause-marks g c = λ records is.
    let more = g.M.Marking.records c.args.marking.now in
    let says = λ (test : Test). list_any (record_marks test) more in
    let query = c.args.self.now.query.now in
    items-with_items c.marks.inside.truths c.mark_all.new.marks (c.mark_all.ensures.len ∙ ap length c.as_mut_slice.ensures.value)
    ∙ rw (c.deref_mut.ensures.value, c.as_mut_slice.ensures.value) at c.in_ok-mark_all.ensures.marks
    ∙ ap (joined c.marks.inside.truths.items) (c.args.self.now.same says)
    ∙ ap (λ (marks : List Bool). joined marks (map says (tests_of query))) (c.marks.view_is ∙ is)
    ∙ marked_more (tests_of query) records more
