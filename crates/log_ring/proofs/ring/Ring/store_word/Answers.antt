use Rattle.std.proofs.Common.{sym, ap, ◌∙◌, arith}
use Rattle.log_ring.proofs.StepLemmas.{word_allowed}
use Rattle.log_ring.proofs.ring.Ring.store_word.Goals as goal

pub store-requires : goal.store-requires
store-requires c =
    let wide = c.self.invariant.0 in
    let seg = ap (λ z. z.seg) c.self.view_is in
    let least = c.self.invariant.2.0 in
    let word = c.from.ensures in
    let small = c.ranges.word in
    (c.requires.placed.0 ∙ sym (ap (λ z. z.table) c.self.view_is), omega arith, word_allowed _ _ seg _ _ c.args.put.now.tail c.args.put.now.count c.args.put.now.unit.now c.args.put.now.placed _ _ c.args.place _ (omega arith) c.requires.started c.requires.placed.1 c.requires.placed.2 c.requires.inside c.requires.behind c.requires.at (word ∙ c.requires.word) (omega arith))
