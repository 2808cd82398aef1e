use Rattle.txn_rows.proofs.WalkLemmas.{taken_walks}
use Rattle.txn_rows.proofs.laws.groups_are_walks.Goals as goal

pub returns : goal.returns
returns c = taken_walks
