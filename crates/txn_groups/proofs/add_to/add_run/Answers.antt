use Rattle.std.proofs.Common.{refl}
use Rattle.txn_groups.specs.declared.pending.Pending.{Pending}
use Rattle.txn_groups.proofs.ToldWentLemmas.{run_went}
use Rattle.txn_groups.proofs.add_to.add_run.Goals as goal

pub returns-clause-went : goal.returns-clause-went
returns-clause-went c = λ vxid held told.
    let p : Pending = c.args.pending.now in
    let m : Pending = record p { nodes = c.add_run_at.new.nodes } in
    run_went c.add_run_at.result c.args.run.now vxid c.args.at p m held told refl refl refl refl refl refl c.add_run_at.ensures
