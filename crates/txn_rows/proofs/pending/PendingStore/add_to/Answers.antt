use Rattle.std.proofs.Common.{List, ap}
use Rattle.txn_rows.specs.Transaction.{Transaction}
use Rattle.txn_rows.proofs.PendingLemmas.{added, added_newest}
use Rattle.txn_rows.proofs.pending.PendingStore.add_to.Goals as goal

pub returns-clause-went : goal.returns-clause-went
returns-clause-went c = λ key trees.
    let p = c.args.self.now in
    let a = added p.begun c.args.vxid c.args.at c.args.rec.now p.rows.items c.index_mut.result.now c.add_record.new.row trees c.requires.newest c.index_mut.ensures.value c.in_ok-add_record.ensures in
    record { kept = a.trees; told = ap (λ (ts : List Transaction). record { pending = ts; begun = p.begun; time = p.time }) a.told }

pub returns-clause-newest : goal.returns-clause-newest
returns-clause-newest c = added_newest c.args.vxid c.args.at c.args.rec.now c.args.self.now.rows.items c.index_mut.result.now c.add_record.new.row c.requires.newest c.index_mut.ensures.value c.in_ok-add_record.ensures
