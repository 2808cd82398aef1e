use Rattle.std.proofs.Common.{sym}
use Rattle.std.proofs.lemmas.Result.{on_ok_weaker, on_err_weaker, err_from_is_err_and}
use Rattle.txn_rows.specs.Grouping.{State, Leaving, then_left, with_all_told, after_end, after_timeouts, after_overflow}
use Rattle.txn_rows.proofs.TakeLemmas.{step_then, part_then, part_first, told_end}
use Rattle.txn_rows.proofs.TimeLemmas.{ended_ordered, late_ordered}
use Rattle.txn_rows.proofs.take.take_telling.Goals as goal

pub returns-in_err-take_timeouts-clause-err : goal.returns-in_err-take_timeouts-clause-err
returns-in_err-take_timeouts-clause-err g c = λ key ordered.
    let o = c.args.options in
    let vxid = c.args.vxid in
    let rec = c.args.rec.now in
    let state : State = g.S.Store.state c.args.store.now in
    let late : State → Leaving = after_timeouts o.timeout state.time in
    let told = c.in_ok-tell.ensures key ordered in
    let end = told_end (g.S.Store.holds key) g.S.Store.state (g.S.Store.hand key) o.grouping vxid rec state told (c.in_ok-take_end.ensures.ok rec (sym c.tag-tag.ensures) key told.kept) in
    let q = err_from_is_err_and c.from_residual-in_err-take_timeouts.result c.from_residual-in_err-take_timeouts.ensures.1 in
    let first = after_end vxid rec (with_all_told o.grouping vxid rec state) in
    let part = c.in_err-take_timeouts.ensures.err key (ended_ordered (g.S.Store.holds key) g.S.Store.state (g.S.Store.hand key) o.grouping vxid rec ordered end) in
    rw q.1 (part_first (g.S.Store.hand key) o.grouping (then_left first late) (after_overflow o.limit) (part_then (g.S.Store.holds key) g.S.Store.state (g.S.Store.hand key) o.grouping first late end (rw c.time-before.ensures at part)))

pub returns-clause-ok : goal.returns-clause-ok
returns-clause-ok g c = λ key ordered.
    let o = c.args.options in
    let vxid = c.args.vxid in
    let rec = c.args.rec.now in
    let state : State = g.S.Store.state c.args.store.now in
    let told = c.in_ok-tell.ensures key ordered in
    let end = told_end (g.S.Store.holds key) g.S.Store.state (g.S.Store.hand key) o.grouping vxid rec state told (c.in_ok-take_end.ensures.ok rec (sym c.tag-tag.ensures) key told.kept) in
    let ends = ended_ordered (g.S.Store.holds key) g.S.Store.state (g.S.Store.hand key) o.grouping vxid rec ordered end in
    let timeouts = rw c.time-before.ensures at (c.in_ok-take_timeouts.ensures.ok key ends) in
    let late = step_then (g.S.Store.holds key) g.S.Store.state (g.S.Store.hand key) o.grouping (after_end vxid rec (with_all_told o.grouping vxid rec state)) (after_timeouts o.timeout state.time) end timeouts in
    on_ok_weaker c.keep_within.result (λ last. step_then (g.S.Store.holds key) g.S.Store.state (g.S.Store.hand key) o.grouping _ (after_overflow o.limit) late last)
    (c.keep_within.ensures.ok key (late_ordered (g.S.Store.holds key) g.S.Store.state (g.S.Store.hand key) o.timeout state.time o.grouping ends timeouts))

pub returns-clause-err : goal.returns-clause-err
returns-clause-err g c = λ key ordered.
    let o = c.args.options in
    let vxid = c.args.vxid in
    let rec = c.args.rec.now in
    let state : State = g.S.Store.state c.args.store.now in
    let told = c.in_ok-tell.ensures key ordered in
    let end = told_end (g.S.Store.holds key) g.S.Store.state (g.S.Store.hand key) o.grouping vxid rec state told (c.in_ok-take_end.ensures.ok rec (sym c.tag-tag.ensures) key told.kept) in
    let ends = ended_ordered (g.S.Store.holds key) g.S.Store.state (g.S.Store.hand key) o.grouping vxid rec ordered end in
    let timeouts = rw c.time-before.ensures at (c.in_ok-take_timeouts.ensures.ok key ends) in
    let late = step_then (g.S.Store.holds key) g.S.Store.state (g.S.Store.hand key) o.grouping (after_end vxid rec (with_all_told o.grouping vxid rec state)) (after_timeouts o.timeout state.time) end timeouts in
    on_err_weaker c.keep_within.result (λ part. part_then (g.S.Store.holds key) g.S.Store.state (g.S.Store.hand key) o.grouping _ (after_overflow o.limit) late part)
    (c.keep_within.ensures.err key (late_ordered (g.S.Store.holds key) g.S.Store.state (g.S.Store.hand key) o.timeout state.time o.grouping ends timeouts))
