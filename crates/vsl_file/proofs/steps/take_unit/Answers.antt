use Rattle.std.proofs.Common.{◌≡◌, ◌<◌, length, sym, ◌∙◌}
use Rattle.std.proofs.lemmas.Bool.{eqb-true}
use Rattle.vsl_file.proofs.ReaderLemmas.{took_unit, took_broken, took_cut, took_end, took_too_large, not_none, some_after}
use Rattle.vsl_file.proofs.steps.take_unit.Goals as goal

pub returns-in_default-clause-took : goal.returns-in_default-clause-took
returns-in_default-clause-took g c = took_broken c.args.version _ _ _ _ _ _ c.hold_unit.ensures.filled c.hold_unit.ensures.within (rw c.as_slice.ensures at (rw c.in_default.is at c.in_ok-unit-in-Sized.ensures.none))

pub returns-in-Some-clause-took : goal.returns-in-Some-clause-took
returns-in-Some-clause-took g c =
    let found = rw c.as_slice.ensures at (rw c.in-Some.is at c.in_ok-unit-in-Sized.ensures.some) in
    took_unit c.args.version c.args.handle c.args.most c.in-Some.unit c.in-Sized.size _ _ _ _ _ c.hold_unit.ensures.filled (rw c.in-Sized.is at c.in_ok-size.ensures.holds) c.hold_unit.ensures.within found c.advance.ensures.items

pub returns-then-branch-clause-took : goal.returns-then-branch-clause-took
returns-then-branch-clause-took g c =
    let held = rw c.in-Stopped.is at c.in_ok-size.ensures.holds in
    let on = c.in_ok-goes_on-in-Stopped.ensures.more c.if-branch.true in
    took_too_large c.args.version _ _ _ _ _ _ _ c.hold_unit.ensures.filled held.stops (sym c.len.ensures.value ∙ on.0) on.1

pub returns-then-branch-clause-reads : goal.returns-then-branch-clause-reads
returns-then-branch-clause-reads g c = some_after c.hold_unit.ensures.filled c.in_ok-goes_on-in-Stopped.ensures.reads

pub returns-then-is_empty-clause-took : goal.returns-then-is_empty-clause-took
returns-then-is_empty-clause-took g c =
    let none : length c.hold_unit.new.buffer.items ≡ 0 = eqb-true _ _ (sym c.is_empty.ensures ∙ c.if-is_empty.true) in
    took_end _ _ _ _ _ _ c.hold_unit.ensures.filled none (c.in_ok-goes_on-in-Stopped.ensures.none c.if-branch.false)

pub returns-else-is_empty-clause-took : goal.returns-else-is_empty-clause-took
returns-else-is_empty-clause-took g c =
    let held = rw c.in-Stopped.is at c.in_ok-size.ensures.holds in
    let some : 0 < length c.hold_unit.new.buffer.items = not_none _ (sym c.is_empty.ensures ∙ c.if-is_empty.false) in
    took_cut c.args.version _ _ _ _ _ _ _ c.hold_unit.ensures.filled c.hold_unit.ensures.within held.stops some (c.in_ok-goes_on-in-Stopped.ensures.none c.if-branch.false)

pub returns-in-Broken-clause-took : goal.returns-in-Broken-clause-took
returns-in-Broken-clause-took g c = took_broken c.args.version _ _ _ _ _ _ c.hold_unit.ensures.filled c.hold_unit.ensures.within (rw c.in-Broken.is at c.in_ok-size.ensures.holds)
