use Rattle.std.proofs.Common.{sym}
use Rattle.txn_rows.proofs.PendingLemmas.{open_at}
use Rattle.txn_rows.proofs.pending.PendingStore.is_open.Goals as goal

pub returns : goal.returns
returns c = λ key trees. sym (open_at c.args.vxid c.args.at c.args.self.now.rows.items c.index.result.now c.requires c.index.ensures)
