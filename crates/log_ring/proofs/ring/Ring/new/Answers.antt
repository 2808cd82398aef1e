use Rattle.std.proofs.Common.{rules, ◌≡◌, ◌+◌, ◌-◌, ℕ, ap, ◌∙◌, subst, arith}
use Rattle.log_ring.specs.Writers.{new_writer, new_writers}
use Rattle.log_ring.specs.inside.Steps.{IsFirstSeat}
use Rattle.log_ring.proofs.OpeningLemmas.{writers_more, last_writer}
use Rattle.log_ring.proofs.ring.Ring.new.Goals as goal

pub loop-k-init : goal.loop-k-init
loop-k-init c =
    let count = c.in_ok-ring.ensures.ring.1 in
    let all : c.in_ok-ring.ring.writers ≡ c.args.writers + 1 - 1 = omega arith in (
      search rules,
      search rules,
      search rules,
      subst (λ (z : ℕ). IsFirstSeat c.in_ok-ring.ring z 0 c.split_readers.new.seat.table_id c.split_readers.new.seat.me) all c.in_ok-readers.ensures.rest,
      c.in_ok-passes.ensures.items,
      c.in_ok-passes.ensures.len,
      search rules,
    )

pub push_reserved-requires : goal.push_reserved-requires
push_reserved-requires c = let before = c.loop-k.invariant in let long = before.5 in let room = before.6 in let more = c.loop-k-test.true in omega arith

pub loop-k-preserved : goal.loop-k-preserved
loop-k-preserved c =
    let before = c.loop-k.invariant in
    let long = before.5 in
    let room = before.6 in
    let count = before.1 in
    let more = c.loop-k-test.true in
    let some_one = c.loop-k.auto.k in
    let number : c.in_ok-ring.ring.writers - (c.args.writers - c.loop-k.k + 1) ≡ c.loop-k.k - 1 = omega arith in
    let rest : c.args.writers - c.loop-k.k + 1 - 1 ≡ c.args.writers + 1 - (c.loop-k.k + 1) = omega arith in
    let next : c.loop-k.k - 1 + 1 ≡ c.loop-k.k + 1 - 1 = omega arith in (
      before.0,
      before.1,
      before.2,
      subst (λ (z : ℕ). IsFirstSeat c.in_ok-ring.ring z 0 c.split_writer.new.seat.table_id c.split_writer.new.seat.me) rest c.split_writer.ensures.rest,
      c.push_reserved.ensures.items ∙ (writers_more _ _ _ _ before.4 (c.split_writer.ensures.pass ∙ ap (new_writer c.in_ok-ring.ring) number) ∙ ap (new_writers c.in_ok-ring.ring) next),
      (let l = c.push_reserved.ensures.len in omega arith),
      search rules,
    )

pub push_reserved-requires-2 : goal.push_reserved-requires-2
push_reserved-requires-2 c = let before = c.loop-k.invariant in let long = before.5 in let room = before.6 in let low = c.requires.some in let k = c.loop-k.auto.k in let upto = c.loop-k.auto.k-end in let past = c.loop-k-test.false in omega arith

pub returns-clause-writers : goal.returns-clause-writers
returns-clause-writers c =
    let before = c.loop-k.invariant in
    let low = c.requires.some in
    let k = c.loop-k.auto.k in
    let upto = c.loop-k.auto.k-end in
    let past = c.loop-k-test.false in
    let count = before.1 in
    let number : c.in_ok-ring.ring.writers - 1 ≡ c.loop-k.k - 1 = omega arith in
    let whole : c.loop-k.k - 1 + 1 ≡ c.args.writers = omega arith in
    c.push_reserved-2.ensures.items ∙ (writers_more _ _ _ _ before.4 (last_writer _ _ _ _ _ before.3 (omega arith) ∙ ap (new_writer c.in_ok-ring.ring) number) ∙ ap (new_writers c.in_ok-ring.ring) whole)
