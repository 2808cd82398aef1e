use Rattle.vsl_decimal.proofs.DecimalLemmas.{if_none, no_size}
use Rattle.vsl_decimal.proofs.number.read_size.Goals as goal

pub returns-in_err-fraction-clause-refused : goal.returns-in_err-fraction-clause-refused
returns-in_err-fraction-clause-refused c = if_none c.from_residual-in_err-fraction.result (no_size _ _ _ _ c.in_ok-whole.ensures.read c.in_err-fraction.ensures.refused)
