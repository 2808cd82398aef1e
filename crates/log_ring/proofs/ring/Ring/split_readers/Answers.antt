use Rattle.std.proofs.Common.{rules, ◌≡◌, ◌+◌, ◌-◌, ℕ, ap, ◌∙◌, subst, arith}
use Rattle.log_ring.specs.Readers.{new_pass}
use Rattle.log_ring.specs.inside.Steps.{IsFirstSeat}
use Rattle.log_ring.proofs.OpeningLemmas.{passes_more}
use Rattle.log_ring.proofs.ring.Ring.split_readers.Goals as goal

pub loop-k-preserved : goal.loop-k-preserved
loop-k-preserved c =
    let before = c.loop-k.invariant in
    let long = before.2 in
    let more = c.loop-k-test.true in
    let rest : c.args.readers - c.loop-k.k - 1 ≡ c.args.readers - (c.loop-k.k + 1) = omega arith in (
      subst (λ (z : ℕ). IsFirstSeat c.args.self.now c.args.self.now.writers z c.split_reader-one.new.seat.table_id c.split_reader-one.new.seat.me) rest c.split_reader-one.ensures.rest,
      c.push_reserved.ensures.items ∙ passes_more _ _ _ _ before.1 (c.of_seat.ensures ∙ ap new_pass c.split_reader-one.ensures.ring),
      (let l = c.push_reserved.ensures.len in omega arith),
      search rules,
    )
