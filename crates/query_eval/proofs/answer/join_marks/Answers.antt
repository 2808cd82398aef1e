use Rattle.std.proofs.Common.{◌≡◌, ◌<◌, ◌≤◌, ◌∷◌, [], List, length, drop, sym, ap, ◌∙◌, length-drop, arith}
use Rattle.std.proofs.lemmas.List.{length-set, get_or_default}
use Rattle.query_parser.specs.declared.test.Test.{Test}
use Rattle.query_eval.specs.Marks.{tests_in}
use Rattle.query_eval.specs.inside.Truths.{marked_of}
use Rattle.query_eval.proofs.JoinLemmas.{joined_one, joined_past, joined_end, next_left, marked_tests, marked_marks, marked_within, marked_at}
use Rattle.query_eval.proofs.answer.join_marks.Goals as goal

-- no test is left
pub returns-in_default-clause-truths : goal.returns-in_default-clause-truths
returns-in_default-clause-truths c =
    let tests : List Test = tests_in c.args.steps.now in
    let none : drop c.loop-i.i tests ≡ [] = sym c.loop-i.invariant.tests ∙ c.in_default.ensures.none in
    let end : length (marked_of c.args.level tests c.args.marks.now) ≤ c.loop-i.i = omega (arith, marked_tests c.args.level tests c.args.marks.now, length-drop c.loop-i.i tests, ap length none) in
    sym (joined_end c.loop-i.i c.loop-i.truths (marked_of c.args.level tests c.args.marks.now) end) ∙ c.loop-i.invariant.truths

-- no mark is left
pub returns-then-marks-i-clause-truths : goal.returns-then-marks-i-clause-truths
returns-then-marks-i-clause-truths c =
    let tests : List Test = tests_in c.args.steps.now in
    let end : length (marked_of c.args.level tests c.args.marks.now) ≤ c.loop-i.i = omega (arith, marked_marks c.args.level tests c.args.marks.now, c.if-marks-i.true) in
    sym (joined_end c.loop-i.i c.loop-i.truths (marked_of c.args.level tests c.args.marks.now) end) ∙ c.loop-i.invariant.truths

-- the mark of one test more was joined
pub loop-i-preserved : goal.loop-i-preserved
loop-i-preserved c =
    let tests : List Test = tests_in c.args.steps.now in
    let level = c.args.level in
    let marks = c.args.marks.now in
    let here : drop c.loop-i.i tests ≡ c.in-Some.test.now ∷ tests_in c.in-Some.more.now = sym c.loop-i.invariant.tests ∙ c.in-Some.ensures.some in
    let inside : c.loop-i.i < length c.loop-i.truths = omega (arith, c.loop-i.invariant.within, c.loop-i-test.true) in
    record {
      within = length-set c.loop-i.truths c.loop-i.i _ ∙ c.loop-i.invariant.within;
      tests = sym (next_left tests c.loop-i.i c.in-Some.test.now (tests_in c.in-Some.more.now) here);
      truths = joined_one c.loop-i.i c.loop-i.truths (marked_of level tests marks) _ _ _ c.is_satisfied.result inside
          (marked_within level tests marks c.loop-i.i c.in-Some.test.now (tests_in c.in-Some.more.now) here (omega arith)) (get_or_default c.loop-i.truths c.loop-i.i _ _ inside)
          (marked_at level tests marks c.loop-i.i c.in-Some.test.now (tests_in c.in-Some.more.now) _ _ here (omega arith)) c.is_satisfied.ensures c.loop-i.invariant.truths;
    }

-- no truth is left
pub returns-clause-truths : goal.returns-clause-truths
returns-clause-truths c = sym (joined_past c.loop-i.i c.loop-i.truths _ (omega (arith, c.loop-i.invariant.within, c.loop-i-test.false))) ∙ c.loop-i.invariant.truths
