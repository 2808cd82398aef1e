use Rattle.std.proofs.Common.{◌∙◌, ◌<◌, length, sym, arith}
use Rattle.vsl_record.specs.Words.{words_in}
use Rattle.vsl_record.proofs.ViewLemmas.{starts_left, all_seen, some_left, records_few, one_there, no_words}
use Rattle.vsl_record.proofs.WordLemmas.{length-words_in}
use Rattle.vsl_record.proofs.views.UnitView.len.Goals as goal

pub overflow_add-count : goal.overflow_add-count
overflow_add-count c =
    let u = c.body-rest.ensures.unit.0 in
    let s = c.body-rest.ensures.unit.1 in
    omega (arith, (c.loop-rest.invariant u s).1, records_few u.vxid u.records, s.unit.size)

pub first_view-requires : goal.first_view-requires
first_view-requires c =
    let u = c.body-rest.ensures.unit.0 in
    let s = c.body-rest.ensures.unit.1 in
    let left = c.loop-rest.invariant u s in
    let some : 0 < length (words_in c.loop-rest.rest.now) = omega (arith, c.loop-rest-test.true, length-words_in c.loop-rest.rest.now) in
    let there = one_there c.loop-rest.count u.records (some_left u.vxid u.records c.loop-rest.count left.1 (rw left.0 at some)) in
    (there.0, _, starts_left _ _ u c.loop-rest.count there.0 s left.0 there.1)

pub loop-rest-smaller : goal.loop-rest-smaller
loop-rest-smaller c = c.first_view.ensures.shorter

pub loop-rest-preserved : goal.loop-rest-preserved
loop-rest-preserved c = λ u s.
    let left = c.loop-rest.invariant u s in
    let some : 0 < length (words_in c.loop-rest.rest.now) = omega (arith, c.loop-rest-test.true, length-words_in c.loop-rest.rest.now) in
    let within = some_left u.vxid u.records c.loop-rest.count left.1 (rw left.0 at some) in
    let there = one_there c.loop-rest.count u.records within in
    (c.first_view.ensures.rest there.0 _ (starts_left _ _ u c.loop-rest.count there.0 s left.0 there.1), omega (arith, within))

pub returns : goal.returns
returns c = λ u s. let left = c.loop-rest.invariant u s in all_seen u.vxid u.records c.loop-rest.count left.1 (sym left.0 ∙ no_words c.loop-rest.rest.now c.loop-rest-test.false)
