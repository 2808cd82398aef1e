use Rattle.vsl_decimal.proofs.DecimalFunctions.{Spells-from, decimal_of-spelled}
use Rattle.vsl_decimal.proofs.laws.decimals_are_spelled.Goals as goal

pub returns : goal.returns
returns c = record { spelled = Spells-from; every = decimal_of-spelled }
