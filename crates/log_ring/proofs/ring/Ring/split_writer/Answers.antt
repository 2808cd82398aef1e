use Rattle.std.proofs.Common.{sym, ap, ◌∙◌, arith}
use Rattle.log_ring.proofs.OpeningLemmas.{first_splits, first_later}
use Rattle.log_ring.proofs.ring.Ring.split_writer.Goals as goal

pub split_seat-one-requires : goal.split_seat-one-requires
split_seat-one-requires c =
    let wide = c.self.invariant.0 in
    let many = c.requires.many in
    (c.requires.first.ours ∙ sym (ap (λ z. z.table) c.self.view_is), omega arith, first_splits _ _ _ _ _ _ _ c.requires.first (omega arith))

pub returns-clause-rest : goal.returns-clause-rest
returns-clause-rest c = let many = c.requires.many in first_later _ _ _ _ _ _ _ c.requires.first (omega arith) c.split_seat-one.ensures.0 c.split_seat-one.ensures.2
