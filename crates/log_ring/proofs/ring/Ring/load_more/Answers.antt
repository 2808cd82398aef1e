use Rattle.std.proofs.Common.{◌+◌, ◌*◌, ◌%◌, length, sym, ap, ◌∙◌, arith}
use Rattle.log_ring.specs.inside.Reading.{reader_of, unchecked_words}
use Rattle.log_ring.proofs.ReadLemmas.{loads_more}
use Rattle.log_ring.proofs.ring.Ring.load_more.Goals as goal

pub load-requires : goal.load-requires
load-requires c =
    let wide = c.self.invariant.0 in
    let least = c.self.invariant.2.0 in
    let read = reader_of c.args.seat.now.me.0 in
    let at = c.requires.at ∙ (λ i. 32 + (read.place + length (unchecked_words read.unchecked)) % (8 * (sym (ap (λ z. z.seg) c.self.view_is)) i)) in
    (c.requires.reader.0 ∙ sym (ap (λ z. z.table) c.self.view_is), omega arith, loads_more _ _ _ _ _ _ _ c.requires.reader.1 (omega arith) c.requires.reader.2 c.requires.copied c.requires.behind c.requires.unit c.requires.starts c.requires.inside at)
