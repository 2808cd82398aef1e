use Rattle.std.proofs.Common.{List, ap, refl}
use Rattle.std.proofs.lemmas.Result.{on_ok_weaker}
use Rattle.txn_rows.specs.Transaction.{Transaction, longer_by}
use Rattle.txn_rows.proofs.PendingLemmas.{changed_rows, newest_stays}
use Rattle.txn_rows.proofs.pending.PendingStore.add_run.Goals as goal

pub returns-clause-went : goal.returns-clause-went
returns-clause-went c = λ key trees.
    let p = c.args.self.now in
    on_ok_weaker c.add_records.result
    (λ told. let a = changed_rows p.begun c.args.vxid c.args.at (longer_by c.args.run.now) (record { serial = λ t. refl; parent = λ t. refl }) p.rows.items c.index_mut.result.now c.add_records.new.row trees c.requires c.index_mut.ensures.value told in
    record { kept = a.trees; told = ap (λ (ts : List Transaction). record { pending = ts; begun = p.begun; time = p.time }) a.told })
    c.add_records.ensures

pub returns-clause-newest : goal.returns-clause-newest
returns-clause-newest c =
    on_ok_weaker c.add_records.result
    (λ told. newest_stays c.args.vxid c.args.at (longer_by c.args.run.now) (λ t. refl) c.args.self.now.rows.items c.index_mut.result.now c.add_records.new.row c.requires c.index_mut.ensures.value told)
    c.add_records.ensures
