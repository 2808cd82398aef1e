use Rattle.std.proofs.Common.{refl}
use Rattle.txn_groups.proofs.TreesLemmas.{no_nodes_went}
use Rattle.txn_groups.proofs.pending.no_pending.Goals as goal

pub returns-clause-went : goal.returns-clause-went
returns-clause-went c = no_nodes_went _ c.new.ensures.items c.new-2.ensures.items c.new-3.ensures c.new-4.ensures.items refl refl refl
