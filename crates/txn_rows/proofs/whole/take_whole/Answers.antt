use Rattle.txn_rows.proofs.WholeLemmas.{whole_went}
use Rattle.txn_rows.proofs.whole.take_whole.Goals as goal

pub returns-clause-ok : goal.returns-clause-ok
returns-clause-ok g c = λ key options ordered is.
    let handed = rw (c.vxid.ensures, c.records.ensures.records) at (c.in_ok-hand_whole.ensures.ok key ordered.kept) in
    whole_went (g.S.Store.holds key) g.S.Store.state (g.S.Store.hand key) options c.args.unit.now c.args.time c.args.store.now c.hand_whole.new.self c.raise.new.self c.args.out.now.items c.hand_whole.new.out.items ordered is handed (λ times. c.raise.ensures.went key handed.kept times)
