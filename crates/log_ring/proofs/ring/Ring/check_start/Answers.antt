use Rattle.std.proofs.Common.{sym, ap, ◌∙◌, arith}
use Rattle.log_ring.proofs.ReadLemmas.{seeks}
use Rattle.log_ring.proofs.ring.Ring.check_start.Goals as goal

pub load-requires : goal.load-requires
load-requires c =
    let wide = c.self.invariant.0 in
    let least = c.self.invariant.2.0 in
    (c.requires.reader.0 ∙ sym (ap (λ z. z.table) c.self.view_is), omega arith, seeks _ _ _ _ _ _ _ _ c.requires.reader.1 (omega arith) c.requires.lost c.requires.unchecked)
