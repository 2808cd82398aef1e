use Rattle.std.proofs.Common.{sym, ap, ◌∙◌, arith}
use Rattle.counter_segments.proofs.RuleLemmas.{looks}
use Rattle.counter_segments.proofs.counters.load.Goals as goal

pub load-requires : goal.load-requires
load-requires c = let wide = c.counters.invariant.0 in let counter = c.requires.counter in let one = c.pass.invariant.1 in (
  ap (λ z. z.counters.table) c.pass.view_is ∙ ap (λ z. z.table) c.requires.ours ∙ sym (ap (λ z. z.table) c.counters.view_is),
  omega arith,
  looks _ _ _ _ _ counter (omega arith),
)
