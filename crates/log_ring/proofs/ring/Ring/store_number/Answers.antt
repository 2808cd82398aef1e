use Rattle.std.proofs.Common.{sym, ap, refl, ◌∙◌, arith}
use Rattle.log_ring.proofs.StepLemmas.{number_allowed}
use Rattle.log_ring.proofs.ring.Ring.store_number.Goals as goal

pub store-requires : goal.store-requires
store-requires c =
    let wide = c.self.invariant.0 in
    let seg = ap (λ z. z.seg) c.self.view_is in
    let least = c.self.invariant.2.0 in
    (c.requires.placed.0 ∙ sym (ap (λ z. z.table) c.self.view_is), omega arith, number_allowed _ _ seg _ _ c.args.put.now.tail c.args.put.now.count c.args.put.now.unit.now c.args.put.now.placed _ _ c.args.segment _ (omega arith) c.requires.started c.requires.placed.1 c.requires.placed.2 c.requires.above c.requires.upto c.requires.number refl)
