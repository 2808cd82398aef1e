use Rattle.std.proofs.Common.{sym, ap, ◌∙◌, arith}
use Rattle.log_ring.proofs.JoiningLemmas.{last_reader, none_joined, reader_joined, reader_allowed}
use Rattle.log_ring.proofs.closing.join_readers.Goals as goal

pub loop-reader-init : goal.loop-reader-init
loop-reader-init c = none_joined _ _ _ _ _ c.requires.theirs c.join_writers-all.ensures

pub join_seat-requires : goal.join_seat-requires
join_seat-requires c =
    let so_far = c.loop-reader.invariant in
    let table = sym (ap (λ z. z.table) c.ring.view_is) in
    let wide = c.ring.invariant.0 in
    let mine = ap (λ z. z.table) c.into_seat-seat.ensures.ring ∙ ap (λ z. z.table) (last_reader _ _ _ _ c.in-Some.ensures.items so_far.are_of) in
    (mine ∙ table, so_far.joined.ours ∙ table, so_far.joined.idle, omega arith, reader_allowed _ _ _ _ _ _ _ _ _ _ so_far c.into_seat-seat.ensures.reader)

pub loop-reader-preserved : goal.loop-reader-preserved
loop-reader-preserved c = reader_joined _ _ _ _ _ _ _ _ _ _ _ _ c.loop-reader.invariant c.in-Some.ensures.items c.into_seat-seat.ensures.reader c.into_seat-seat.ensures.part c.into_seat-seat.ensures.ring c.join_seat.ensures.0 c.join_seat.ensures.2
