use Rattle.std.proofs.Common.{sym, ap, ◌∙◌, arith, true}
use Rattle.log_ring.proofs.StepLemmas.{load_count_allowed}
use Rattle.log_ring.proofs.ring.Ring.load_count.Goals as goal

pub load-requires : goal.load-requires
load-requires g c =
    let wide = c.self.invariant.0 in
    (c.requires.ours ∙ sym (ap (λ z. z.table) c.self.view_is), omega arith, load_count_allowed _ _ (ap (λ z. z.seg) c.self.view_is) _ _ c.args.tail 0 c.args.unit.now (record { start = 0; tail = 0; wraps = true }) _ c.requires.begun)
