use Rattle.std.proofs.Common.{rules, ◌∙◌}
use Rattle.counter_segments.proofs.SumLemmas.{values_more}
use Rattle.counter_segments.proofs.counters.close.Goals as goal

pub loop-which-preserved : goal.loop-which-preserved
loop-which-preserved c =
    let before = c.loop-which.invariant in
    (search rules, search rules, c.push_reserved.ensures.items ∙ values_more _ _ _ _ before.2 (c.settled.ensures.sum ∙ before.1 c.loop-which.which), search rules, search rules)
