use Rattle.std.proofs.Common.{◌≡◌, ◌<◌, true, Bool, List, length, map, get_or, sym, ◌∙◌, arith}
use Rattle.std.proofs.lemmas.List.{length-map}
use Rattle.std.specs.List.{list_any}
use Rattle.query_parser.specs.declared.test.Test.{Test}
use Rattle.query_eval.specs.declared.asker.Asked.{Asked}
use Rattle.query_eval.specs.Meaning.{record_marks}
use Rattle.query_eval.proofs.AskerLemmas.{same_tests, at_test, is_there, none_more}
use Rattle.query_eval.proofs.asker.sees_any.Goals as goal

pub returns-in_err-sees-clause-tests : goal.returns-in_err-sees-clause-tests
returns-in_err-sees-clause-tests g c = same_tests (λ a. a.test.now) _ _ c.loop-i.i c.index-all-i.result _ c.loop-i.invariant.tests c.sees.ensures.test

pub returns-then-branch-clause-tests : goal.returns-then-branch-clause-tests
returns-then-branch-clause-tests g c = same_tests (λ a. a.test.now) _ _ c.loop-i.i c.index-all-i.result _ c.loop-i.invariant.tests c.sees.ensures.test

-- the test at the index is satisfied
pub returns-then-branch-clause-answer : goal.returns-then-branch-clause-answer
returns-then-branch-clause-answer g c =
    let f = λ (a : Asked). a.test.now in
    let says = λ (test : Test). list_any (record_marks test) (g.M.Marking.records c.args.marking.now) in
    let truths : List Bool = map says (map f c.args.all.now) in
    let within : c.loop-i.i < length c.loop-i.all = omega arith in
    let inside : c.loop-i.i < length truths = omega (arith, length-map (map f c.args.all.now) says, length-map c.args.all.now f) in
    is_there truths c.loop-i.i true inside (at_test f says c.loop-i.all c.args.all.now c.loop-i.i c.index-all-i.result true c.loop-i.invariant.tests within ∙ sym c.in_ok-sees.ensures.answer ∙ c.if-branch.true)

-- and is not
pub loop-i-preserved : goal.loop-i-preserved
loop-i-preserved g c =
    let f = λ (a : Asked). a.test.now in
    let says = λ (test : Test). list_any (record_marks test) (g.M.Marking.records c.args.marking.now) in
    let truths : List Bool = map says (map f c.args.all.now) in
    let within : c.loop-i.i < length c.loop-i.all = omega arith in
    let inside : c.loop-i.i < length truths = omega (arith, length-map (map f c.args.all.now) says, length-map c.args.all.now f) in
    record {
      tests = same_tests f _ _ c.loop-i.i c.index-all-i.result _ c.loop-i.invariant.tests c.sees.ensures.test;
      unseen = none_more truths c.loop-i.i true inside (at_test f says c.loop-i.all c.args.all.now c.loop-i.i c.index-all-i.result true c.loop-i.invariant.tests within ∙ sym c.in_ok-sees.ensures.answer ∙ c.if-branch.false) c.loop-i.invariant.unseen;
    }
