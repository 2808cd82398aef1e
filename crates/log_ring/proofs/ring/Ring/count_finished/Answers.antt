use Rattle.std.proofs.Common.{sym, ap, ◌∙◌, arith}
use Rattle.log_ring.proofs.PublishLemmas.{leaves}
use Rattle.log_ring.proofs.ring.Ring.count_finished.Goals as goal

pub fetch_add-requires : goal.fetch_add-requires
fetch_add-requires c =
    let wide = c.self.invariant.0 in
    (c.requires.ours ∙ sym (ap (λ z. z.table) c.self.view_is), omega arith, leaves _ _ _ _ _ c.requires.free c.requires.stays)
