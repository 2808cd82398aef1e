use Rattle.std.proofs.Common.{◌+◌, ◌<◌, arith, rules}
use Rattle.std.specs.Str.Parse.{digits_value}
use Rattle.std.proofs.lemmas.Bool.{lt-leb}
use Rattle.std.proofs.lemmas.Bool.Decides.{nat_tests}
use Rattle.std.proofs.lemmas.Grind.{common_steps}
use Rattle.std.proofs.lemmas.Int.Digits.{digits_value_more}
use Rattle.std.proofs.lemmas.Str.Parse.{digits_value-take-le}
use Rattle.vsl_decimal.proofs.DecimalLemmas.{digit_is}
use Rattle.vsl_decimal.proofs.whole.wide_number.Goals as goal

pub returns-then-value-tenth : goal.returns-then-value-tenth
returns-then-value-tenth c =
    let digit = c.if-not-is_ascii_digit.ensures.cases in
    let is = digit_is _ digit.0 digit.1 in
    let more = digits_value_more 10 c.args.text.now c.loop-digit.digit-index c.loop-digit-test.true in
    let least = digits_value-take-le 10 c.args.text.now (c.loop-digit.digit-index + 1) (omega arith) in
    let big : c.args.high < digits_value 10 c.args.text.now = omega (arith, is, more, least, c.loop-digit.invariant.value) in
    rw (lt-leb _ _ big) (search rules)

pub loop-digit-preserved : goal.loop-digit-preserved
loop-digit-preserved c =
    let digit = c.if-not-is_ascii_digit.ensures.cases in
    let is = digit_is _ digit.0 digit.1 in
    let more = digits_value_more 10 c.args.text.now c.loop-digit.digit-index c.loop-digit-test.true in
    record { digits = grind (arith, common_steps, nat_tests); value = omega (arith, is, more, c.loop-digit.invariant.value); small = omega arith }
