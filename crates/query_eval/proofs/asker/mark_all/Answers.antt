use Rattle.std.proofs.Common.{◌<◌, ◌≤◌, List, length, map, sym, ◌∙◌, arith}
use Rattle.std.proofs.lemmas.List.{length-map, length-set, get_or_default}
use Rattle.std.specs.List.{list_any}
use Rattle.query_parser.specs.declared.test.Test.{Test}
use Rattle.query_eval.specs.declared.asker.Asked.{Asked}
use Rattle.query_eval.specs.Meaning.{record_marks}
use Rattle.query_eval.proofs.AskerLemmas.{same_tests, at_test}
use Rattle.query_eval.proofs.JoinLemmas.{joined_one, joined_past, joined_end}
use Rattle.query_eval.proofs.asker.mark_all.Goals as goal

pub returns-in_err-mark-clause-tests : goal.returns-in_err-mark-clause-tests
returns-in_err-mark-clause-tests g c = same_tests (λ a. a.test.now) _ _ c.loop-i.i c.index-all-i.result _ c.loop-i.invariant.tests c.mark.ensures.test

-- there are no more marks
pub returns-then-marks-i-clause-marks : goal.returns-then-marks-i-clause-marks
returns-then-marks-i-clause-marks g c = sym (joined_past c.loop-i.i c.loop-i.marks _ (omega (arith, c.if-marks-i.true))) ∙ c.loop-i.invariant.marks

-- one mark more was joined
pub loop-i-preserved : goal.loop-i-preserved
loop-i-preserved g c =
    let f = λ (a : Asked). a.test.now in
    let says = λ (test : Test). list_any (record_marks test) (g.M.Marking.records c.args.marking.now) in
    let tests : List Test = map f c.args.all.now in
    let within : c.loop-i.i < length c.loop-i.all = omega arith in
    let inside : c.loop-i.i < length c.loop-i.marks = omega (arith, c.if-marks-i.false) in
    let in_more : c.loop-i.i < length (map says tests) = omega (arith, length-map tests says, length-map c.args.all.now f) in
    record {
      tests = same_tests f _ _ c.loop-i.i c.index-all-i.result _ c.loop-i.invariant.tests c.mark.ensures.test;
      within = length-set c.loop-i.marks c.loop-i.i _ ∙ c.loop-i.invariant.within;
      marks = joined_one c.loop-i.i c.loop-i.marks (map says tests) _ _ _ c.mark.new.mark inside in_more
          (get_or_default c.loop-i.marks c.loop-i.i _ _ inside) (sym (at_test f says c.loop-i.all c.args.all.now c.loop-i.i c.index-all-i.result _ c.loop-i.invariant.tests within)) c.in_ok-mark.ensures.mark c.loop-i.invariant.marks;
    }

-- no test is left
pub returns-clause-marks : goal.returns-clause-marks
returns-clause-marks g c =
    let f = λ (a : Asked). a.test.now in
    let says = λ (test : Test). list_any (record_marks test) (g.M.Marking.records c.args.marking.now) in
    let tests : List Test = map f c.args.all.now in
    let end : length (map says tests) ≤ c.loop-i.i = omega (arith, length-map tests says, length-map c.args.all.now f) in
    sym (joined_end c.loop-i.i c.loop-i.marks (map says tests) end) ∙ c.loop-i.invariant.marks
