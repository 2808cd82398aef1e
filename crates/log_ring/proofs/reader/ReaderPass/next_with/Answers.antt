use Rattle.std.proofs.Common.{ap, arith}
use Rattle.log_ring.proofs.AnswerLemmas.{one_lap}
use Rattle.log_ring.proofs.reader.ReaderPass.next_with.Goals as goal

pub unreachable-requires : goal.unreachable-requires
unreachable-requires g c =
    let first = c.in_default-take.ensures.moved in
    let second = c.in_default-take-2.ensures.moved in
    one_lap _ _ _ c.in_default-take.ensures.same first second (let least = c.ring.invariant.2.0 in let a = ap (λ z. z.seg) c.ring.view_is in let b = ap (λ z. z.seg) c.requires.ours in omega arith)
