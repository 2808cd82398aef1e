use Rattle.std.proofs.Common.{◌≡◌, ◌≤◌, ℕ, arith}
use Rattle.vsl_record.proofs.ViewLemmas.{starts_left, one_there}
use Rattle.vsl_record.proofs.views.UnitView.item.Goals as goal

at_end : (k n : ℕ) → k ≤ n → n ≤ k → k ≡ n
at_end k n below above = omega (arith, below, above)

pub first_view-requires : goal.first_view-requires
first_view-requires c =
    let u = c.body-rest.ensures.unit.0 in
    let s = c.body-rest.ensures.unit.1 in
    let there = one_there c.loop.counter u.records (omega (arith, c.requires u s, c.loop-test.true)) in
    (there.0, _, starts_left _ _ u c.loop.counter there.0 s (c.loop.invariant u s) there.1)

pub loop-preserved : goal.loop-preserved
loop-preserved c = λ u s.
    let there = one_there c.loop.counter u.records (omega (arith, c.requires u s, c.loop-test.true)) in
    c.first_view.ensures.rest there.0 _ (starts_left _ _ u c.loop.counter there.0 s (c.loop.invariant u s) there.1)

pub first_view-view-requires : goal.first_view-view-requires
first_view-view-requires c =
    let u = c.body-rest.ensures.unit.0 in
    let s = c.body-rest.ensures.unit.1 in
    let there = one_there c.args.place u.records (c.requires u s) in
    (there.0, _, starts_left _ _ u c.args.place there.0 s (rw (at_end c.loop.counter c.args.place c.loop.auto.counter-end c.loop-test.false) at (c.loop.invariant u s)) there.1)

pub returns : goal.returns
returns c = λ u rec s e. c.first_view-view.ensures.record rec _ (starts_left _ _ u c.args.place rec s (rw (at_end c.loop.counter c.args.place c.loop.auto.counter-end c.loop-test.false) at (c.loop.invariant u s)) e)
