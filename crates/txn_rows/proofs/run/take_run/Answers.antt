use Rattle.txn_rows.proofs.QuietLemmas.{run_went}
use Rattle.txn_rows.proofs.run.take_run.Goals as goal

pub returns-clause-went : goal.returns-clause-went
returns-clause-went g c = λ key options ordered is.
    let added = c.in_ok-add_run.ensures.went key ordered.kept in
    run_went (g.S.Store.holds key) g.S.Store.state (g.S.Store.hand key) options c.args.vxid c.args.run.now c.args.time c.args.store.now c.add_run.new.self c.raise.new.self ordered is added (λ times. c.raise.ensures.went key added.kept times)
