use Rattle.std.proofs.Common.{sym, ap, ◌∙◌, arith}
use Rattle.counter_segments.proofs.RuleLemmas.{joins}
use Rattle.counter_segments.proofs.PassLemmas.{joined_first, joined_more, last_of}
use Rattle.counter_segments.proofs.counters.join_all.Goals as goal

pub loop-pass-init : goal.loop-pass-init
loop-pass-init c =
    let whole = c.args.passes.ok in
    let all = c.requires.all in
    joined_first _ _ _ _ _ _ _ c.in-Some.ensures.items c.requires.ours (omega arith) c.first.view_is c.first.invariant

pub join_seat-requires : goal.join_seat-requires
join_seat-requires c =
    let joined = c.loop-pass.invariant in
    let table = sym (ap (λ z. z.table) c.counters.view_is) in
    let wide = c.counters.invariant.0 in (
      joined.ours ∙ table,
      ap (λ z. z.counters.table) c.pass.view_is ∙ ap (λ z. z.table) (last_of _ _ _ _ c.in-Some-pop.ensures.items joined.are_of) ∙ table,
      c.pass.invariant.0,
      omega arith,
      joins _ _ _ _ _ joined.some,
    )

pub loop-pass-preserved : goal.loop-pass-preserved
loop-pass-preserved c = joined_more _ _ _ _ _ _ _ _ _ _ _ _ c.loop-pass.invariant c.in-Some-pop.ensures.items c.pass.view_is c.pass.invariant c.join_seat.ensures.0 c.join_seat.ensures.2
