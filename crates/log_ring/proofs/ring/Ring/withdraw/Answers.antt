use Rattle.std.proofs.Common.{sym, ap, refl, ◌∙◌, arith, true}
use Rattle.log_ring.proofs.StepLemmas.{withdraw_allowed}
use Rattle.log_ring.proofs.ring.Ring.withdraw.Goals as goal

pub store-requires : goal.store-requires
store-requires g c =
    let wide = c.self.invariant.0 in
    (c.requires.ours ∙ sym (ap (λ z. z.table) c.self.view_is), omega arith, withdraw_allowed _ _ (ap (λ z. z.seg) c.self.view_is) _ _ c.args.tail 0 c.args.unit.now (record { start = 0; tail = 0; wraps = true }) _ _ c.requires.begun refl)
