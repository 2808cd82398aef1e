use Rattle.std.proofs.Common.{sym, ap, ◌∙◌, arith}
use Rattle.log_ring.proofs.ReadLemmas.{checks_again}
use Rattle.log_ring.proofs.ring.Ring.check_again.Goals as goal

pub load-requires : goal.load-requires
load-requires c =
    let wide = c.self.invariant.0 in
    let least = c.self.invariant.2.0 in
    (c.requires.reader.0 ∙ sym (ap (λ z. z.table) c.self.view_is), omega arith, checks_again _ _ _ _ _ _ c.requires.reader.1 c.requires.lost)
