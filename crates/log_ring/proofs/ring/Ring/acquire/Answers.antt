use Rattle.std.proofs.Common.{sym, ap, ◌∙◌, arith}
use Rattle.log_ring.proofs.TokenLemmas.{acquires_told}
use Rattle.log_ring.proofs.ring.Ring.acquire.Goals as goal

pub swap-requires : goal.swap-requires
swap-requires g c =
    let wide = c.self.invariant.0 in
    (c.requires.ours ∙ sym (ap (λ z. z.table) c.self.view_is), omega arith, acquires_told _ _ _ _ _ _ c.requires.free c.requires.stays)
