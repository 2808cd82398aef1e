use Rattle.std.proofs.Common.{None, Result, sym, subst, arith}
use Rattle.std.specs.Global.{Vec}
use Rattle.std.proofs.lemmas.Result.{err_from_is_err_and}
use Rattle.query_grammar.specs.declared.step.StepOver.{StepOver}
use Rattle.query_grammar.specs.Lines.{lines_of, read_lines}
use Rattle.query_parser.specs.declared.fault.QueryFault.{QueryFault}
use Rattle.query_parser.specs.declared.test.Test.{Test}
use Rattle.query_parser.specs.inside.Follows.{rules, Gives}
use Rattle.query_parser.proofs.Driving.{after_first}
use Rattle.query_parser.proofs.LinesRead.{first_led, first_fails, next_led, next_fails, all_given}
use Rattle.query_parser.proofs.parser.read_text.Goals as goal

pub returns-in_err-steps : goal.returns-in_err-steps
returns-in_err-steps c =
    let p = err_from_is_err_and c.from_residual.result c.from_residual.ensures.1 in
    let length_is = c.line_len.ensures.length in
    rw (p.1, p.2) (first_fails c.args.caseless c.args.text.now c.split_at.result.0.now c.split_at.result.1.now c.in_err-steps.field-0.0 (rw length_is at c.split_at.ensures.front) (rw length_is at c.split_at.ensures.back) (c.in_err-steps.ensures None tt))

pub loop-behind-init : goal.loop-behind-init
loop-behind-init c =
    let length_is = c.line_len.ensures.length in
    first_led c.args.caseless c.args.text.now c.split_at.result.0.now c.split_at.result.1.now c.in_ok-steps.steps (rw length_is at c.split_at.ensures.front) (rw length_is at c.split_at.ensures.back) (omega arith) (c.in_ok-steps.ensures None tt)

pub returns-in_err-steps-2 : goal.returns-in_err-steps-2
returns-in_err-steps-2 c =
    let p = err_from_is_err_and c.from_residual-in_err-steps-2.result c.from_residual-in_err-steps-2.ensures.1 in
    let length_is = c.line_len-in-len1-up.ensures.length in
    let h = c.loop-behind.invariant in
    rw (p.1, p.2) (next_fails c.args.caseless c.args.text.now c.loop-behind.behind.now _ c.split_at-in-len1-up.result.0.now c.split_at-in-len1-up.result.1.now c.loop-behind.steps c.in_err-steps-2.field-0.0 (omega arith) (after_first c.loop-behind.behind.now (omega arith)) h
    (rw length_is at c.split_at-in-len1-up.ensures.front) (rw length_is at c.split_at-in-len1-up.ensures.back) (c.in_err-steps-2.ensures h.before h.meant))

pub loop-behind-preserved : goal.loop-behind-preserved
loop-behind-preserved c =
    let length_is = c.line_len-in-len1-up.ensures.length in
    let h = c.loop-behind.invariant in
    next_led c.args.caseless c.args.text.now c.loop-behind.behind.now _ c.split_at-in-len1-up.result.0.now c.split_at-in-len1-up.result.1.now c.loop-behind.steps c.in_ok-steps-2.steps (omega arith) (after_first c.loop-behind.behind.now (omega arith)) h
    (rw length_is at c.split_at-in-len1-up.ensures.front) (rw length_is at c.split_at-in-len1-up.ensures.back) (omega arith) (c.in_ok-steps-2.ensures h.before h.meant)

pub returns : goal.returns
returns c =
    subst (λ (r : Result (Vec (StepOver Test)) QueryFault). Gives c.args.caseless r (read_lines (rules c.args.caseless) 0 None (lines_of c.args.text.now))) (sym c.ok_or.ensures.value) (all_given c.args.caseless c.args.text.now c.loop-behind.behind.now c.loop-behind.steps (omega arith) c.loop-behind.invariant)
