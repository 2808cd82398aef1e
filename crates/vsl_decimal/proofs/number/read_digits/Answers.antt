use Rattle.vsl_decimal.proofs.DecimalLemmas.{AreRead-more}
use Rattle.vsl_decimal.proofs.number.read_digits.Goals as goal

pub loop-count-preserved : goal.loop-count-preserved
loop-count-preserved c =
    let digit = c.if-is_ascii_digit.ensures.cases in
    rw c.from.ensures (AreRead-more _ _ _ c.loop-count.invariant c.loop-count-test.true c.if-count-eq-MOST_DIGITS.false digit.0 digit.1)
