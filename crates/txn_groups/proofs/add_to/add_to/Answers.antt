use Rattle.std.proofs.Common.{refl}
use Rattle.txn_groups.specs.declared.pending.Pending.{Pending}
use Rattle.txn_groups.proofs.ToldWentLemmas.{added_went}
use Rattle.txn_groups.proofs.add_to.add_to.Goals as goal

pub returns-clause-went : goal.returns-clause-went
returns-clause-went c = λ vxid held told.
    let p : Pending = c.args.pending.now in
    let m : Pending = record p { nodes = c.add_at.new.nodes } in
    added_went c.add_at.result c.args.rec.now vxid c.args.at p m held told refl refl refl refl refl refl c.add_at.ensures
