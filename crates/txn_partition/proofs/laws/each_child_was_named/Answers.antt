use Rattle.txn_partition.proofs.ChildGroupLemmas.{each_child_named}
use Rattle.txn_partition.proofs.laws.each_child_was_named.Goals as goal

pub returns : goal.returns
returns c = each_child_named
