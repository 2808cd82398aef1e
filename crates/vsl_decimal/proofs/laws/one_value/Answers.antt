use Rattle.vsl_decimal.proofs.DecimalLemmas.{one_value}
use Rattle.vsl_decimal.proofs.laws.one_value.Goals as goal

pub returns : goal.returns
returns c = one_value
