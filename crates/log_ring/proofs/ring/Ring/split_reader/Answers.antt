use Rattle.std.proofs.Common.{sym, ap, ◌∙◌, arith}
use Rattle.log_ring.specs.inside.Steps.{set_of}
use Rattle.log_ring.proofs.OpeningLemmas.{first_reads, first_unread, reader_seat}
use Rattle.log_ring.proofs.ring.Ring.split_reader.Goals as goal

pub split_seat-requires : goal.split_seat-requires
split_seat-requires c =
    let wide = c.self.invariant.0 in
    (c.requires.first.ours ∙ sym (ap (λ z. z.table) c.self.view_is), omega arith, first_reads _ _ _ _ _ _ _ c.requires.first c.requires.some)

pub returns-clause-reader : goal.returns-clause-reader
returns-clause-reader c = (reader_seat _ _ _ _ _ _ c.requires.first c.requires.some c.split_seat.ensures.4).0

pub returns-clause-part : goal.returns-clause-part
returns-clause-part c = (reader_seat _ _ _ _ _ _ c.requires.first c.requires.some c.split_seat.ensures.4).1

pub returns-clause-ring : goal.returns-clause-ring
returns-clause-ring c =
    let first = c.requires.first in
    (λ i. set_of ((c.split_seat.ensures.3 ∙ first.ours) i) (ap (λ m. m.0.ring) c.split_seat.ensures.4 i)) ∙ first.ring_is

pub returns-clause-rest : goal.returns-clause-rest
returns-clause-rest c = first_unread _ _ _ _ _ _ _ c.requires.first c.requires.some c.split_seat.ensures.0 c.split_seat.ensures.2
