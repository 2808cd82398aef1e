use Rattle.std.proofs.Common.{sym, ap, ◌∙◌, arith}
use Rattle.counter_segments.proofs.RuleLemmas.{splits}
use Rattle.counter_segments.proofs.counters.Counters.split.Goals as goal

pub split_seat-one-requires : goal.split_seat-one-requires
split_seat-one-requires c = let wide = c.self.invariant.0 in
    (c.requires.ours ∙ sym (ap (λ z. z.table) c.self.view_is), omega arith, splits _ _ _ c.requires.many c.requires.fresh.1)
