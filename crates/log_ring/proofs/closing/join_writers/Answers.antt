use Rattle.std.proofs.Common.{sym, ap, ◌∙◌, arith}
use Rattle.log_ring.proofs.JoiningLemmas.{last_of, joined_first, joined_more, join_allowed}
use Rattle.log_ring.proofs.closing.join_writers.Goals as goal

pub loop-writer-init : goal.loop-writer-init
loop-writer-init c = joined_first _ _ _ _ _ _ c.in-Some.ensures.items c.requires.ours c.into_seat-all.ensures.finished c.into_seat-all.ensures.same

pub join_seat-requires : goal.join_seat-requires
join_seat-requires c =
    let joined = c.loop-writer.invariant in
    let table = sym (ap (λ z. z.table) c.ring.view_is) in
    let wide = c.ring.invariant.0 in
    let mine = ap (λ z. z.ring.table) c.into_seat-seat.ensures.same ∙ ap (λ z. z.table) (last_of _ _ _ _ c.in-Some-pop.ensures.items joined.are_of) in
    (mine ∙ table, joined.ours ∙ table, joined.idle, omega arith, join_allowed _ _ _ _ _ _ _ _ _ joined c.into_seat-seat.ensures.finished)

pub loop-writer-preserved : goal.loop-writer-preserved
loop-writer-preserved c = joined_more _ _ _ _ _ _ _ _ _ _ _ c.loop-writer.invariant c.in-Some-pop.ensures.items c.into_seat-seat.ensures.finished c.into_seat-seat.ensures.same c.join_seat.ensures.0 c.join_seat.ensures.2
