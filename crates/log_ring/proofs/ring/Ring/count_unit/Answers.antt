use Rattle.std.proofs.Common.{sym, ap, refl, ◌∙◌, arith}
use Rattle.log_ring.proofs.StepLemmas.{count_allowed}
use Rattle.log_ring.proofs.ring.Ring.count_unit.Goals as goal

pub store-requires : goal.store-requires
store-requires g c =
    let wide = c.self.invariant.0 in
    (c.requires.placed.0 ∙ sym (ap (λ z. z.table) c.self.view_is), omega arith, count_allowed _ _ (ap (λ z. z.seg) c.self.view_is) _ _ c.args.put.now.tail c.args.put.now.count c.args.put.now.unit.now c.args.put.now.placed _ _ c.requires.marked refl)
