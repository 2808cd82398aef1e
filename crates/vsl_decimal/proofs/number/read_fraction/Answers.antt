use Rattle.vsl_decimal.proofs.DecimalLemmas.{SpellsFraction-period}
use Rattle.vsl_decimal.proofs.number.read_fraction.Goals as goal

pub returns-clause-read : goal.returns-clause-read
returns-clause-read c = SpellsFraction-period _ _ _ c.in_ok-after_byte.ensures.some c.read_all_digits.ensures.read
