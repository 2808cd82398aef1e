use Rattle.txn_partition.proofs.OfUnitsLemmas.{left_are_of_units}
use Rattle.txn_partition.proofs.laws.groups_are_of_units.Goals as goal

pub returns : goal.returns
returns c = left_are_of_units
