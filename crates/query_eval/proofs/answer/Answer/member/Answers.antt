use Rattle.std.proofs.Common.{ℕ, Bool, List, length, ap, ◌∙◌}
use Rattle.smallvec.proofs.SmallVecLemmas.{items-with_items}
use Rattle.query_grammar.specs.declared.step.StepOver.{StepOver}
use Rattle.query_parser.specs.declared.test.Test.{Test}
use Rattle.query_eval.specs.Marks.{marks_of, tests_in, tests_of}
use Rattle.query_eval.specs.inside.Truths.{joined, marked_of}
use Rattle.query_eval.proofs.MarkLemmas.{answered_more}
use Rattle.query_eval.proofs.answer.Answer.member.Goals as goal

-- the marks are those of the member's records
pub returns : goal.returns
returns c = λ members member is of_level are_marks.
    let query = c.args.query.now in
    let before = c.self.inside.truths.items in
    items-with_items c.self.inside.truths c.join_marks.new.truths (c.join_marks.ensures.len ∙ ap length c.as_mut_slice.ensures.value)
    ∙ c.join_marks.ensures.truths
    ∙ ap (λ (truths : List Bool). joined truths (marked_of c.args.level (tests_in c.deref.result.now) c.as_slice.result.now)) c.as_mut_slice.ensures.value
    ∙ ap (λ (steps : List (StepOver Test)). joined before (marked_of c.args.level (tests_in steps) c.as_slice.result.now)) c.deref.ensures.value
    ∙ ap (λ (marks : List Bool). joined before (marked_of c.args.level (tests_of query) marks)) (c.as_slice.ensures ∙ c.marks.view_is ∙ are_marks)
    ∙ ap (λ (level : ℕ). joined before (marked_of level (tests_of query) (marks_of query member.records))) of_level
    ∙ ap (λ (truths : List Bool). joined truths (marked_of member.level (tests_of query) (marks_of query member.records))) (c.self.view_is ∙ is)
    ∙ answered_more (tests_of query) members member
