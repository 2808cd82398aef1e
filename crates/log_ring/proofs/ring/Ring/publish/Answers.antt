use Rattle.std.proofs.Common.{sym, ap, ◌∙◌, arith}
use Rattle.log_ring.proofs.StepLemmas.{publish_allowed}
use Rattle.log_ring.proofs.ring.Ring.publish.Goals as goal

pub store-requires : goal.store-requires
store-requires g c =
    let wide = c.self.invariant.0 in
    let seg = ap (λ z. z.seg) c.self.view_is in
    let least = c.self.invariant.2.0 in
    let there = c.word_of.ensures in
    let word = c.from.ensures in
    let small = c.last_word-word.type_inv in
    (c.requires.placed.0 ∙ sym (ap (λ z. z.table) c.self.view_is), omega arith, publish_allowed _ _ seg _ _ c.args.put.now.tail c.args.put.now.count c.args.put.now.unit.now c.args.put.now.placed _ _ _ _ (omega arith) c.is_unit.ensures c.requires.counted c.requires.placed.1 (omega arith) c.requires.placed.2 c.requires.one c.requires.stays there (word ∙ c.last_word-word.ensures) (omega arith))
