use Rattle.std.proofs.Common.{sym, ap, ◌∙◌, arith}
use Rattle.counter_segments.proofs.RuleLemmas.{looks}
use Rattle.counter_segments.proofs.counters.Counters.settled.Goals as goal

pub load-requires : goal.load-requires
load-requires c =
    let wide = c.self.invariant.0 in
    let some = c.self.invariant.1 in
    let key = ap (λ z. z.passes) c.self.view_is in
    let all = c.requires.whole.passes in
    (c.requires.whole.ours ∙ sym (ap (λ z. z.table) c.self.view_is), omega arith, looks _ _ _ _ _ c.requires.counter (omega arith))
