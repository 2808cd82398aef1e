use Rattle.std.proofs.Common.{sym, ap, ◌∙◌, arith}
use Rattle.log_ring.proofs.StepLemmas.{mark_allowed}
use Rattle.log_ring.proofs.ring.Ring.store_mark.Goals as goal

pub store-requires : goal.store-requires
store-requires g c =
    let wide = c.self.invariant.0 in
    let seg = ap (λ z. z.seg) c.self.view_is in
    let least = c.self.invariant.2.0 in
    let there = c.word_of.ensures in
    (c.requires.placed.0 ∙ sym (ap (λ z. z.table) c.self.view_is), omega arith, mark_allowed _ _ seg _ _ c.args.put.now.tail c.args.put.now.count c.args.put.now.unit.now c.args.put.now.placed _ _ _ (omega arith) c.requires.written c.requires.placed.1 (omega arith) c.requires.placed.2 there c.from.ensures)
