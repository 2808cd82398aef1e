use Rattle.std.proofs.Common.{◌+◌, ◌*◌, ◌%◌, sym, ap, ◌∙◌, arith}
use Rattle.log_ring.proofs.ReadLemmas.{loads_head}
use Rattle.log_ring.proofs.ring.Ring.load_head.Goals as goal

pub load-requires : goal.load-requires
load-requires c =
    let wide = c.self.invariant.0 in
    let least = c.self.invariant.2.0 in
    let at = c.word_of.ensures ∙ (λ i. 32 + c.requires.place i % (8 * (sym (ap (λ z. z.seg) c.self.view_is)) i)) in
    (c.requires.reader.0 ∙ sym (ap (λ z. z.table) c.self.view_is), omega arith, loads_head _ _ _ _ _ _ c.requires.reader.1 (omega arith) c.requires.reader.2 at)
