use Rattle.std.proofs.Common.{◌≤◌, ◌<◌, length, refl, sym, ◌∙◌, arith}
use Rattle.std.proofs.lemmas.Result.{err_from_is_err_and}
use Rattle.txn_rows.specs.declared.which.Which.TheVariants.{Unfinished}
use Rattle.txn_rows.specs.declared.group.Cause.TheVariants.{Overflow}
use Rattle.txn_rows.specs.Grouping.{forced_down}
use Rattle.txn_rows.proofs.ForceAllLemmas.{down_within, down_none, down_over, forces_first, forces_done, forces_end, forces_last, forces_more, forces_part}
use Rattle.txn_rows.proofs.forcing.keep_within.Goals as goal

pub loop-i-init : goal.loop-i-init
loop-i-init g c = λ key ordered.
    forces_first (g.S.Store.holds key) g.S.Store.state (g.S.Store.hand key) c.args.grouping Unfinished (forced_down c.args.limit) c.rows-most.result c.args.store.now c.args.out.now.items ordered (c.rows-most.ensures key ordered.kept)

pub returns-then-rows-limit-clause-ok : goal.returns-then-rows-limit-clause-ok
returns-then-rows-limit-clause-ok g c = λ key ordered.
    let on = c.loop-i.invariant key ordered in
    forces_done (g.S.Store.holds key) g.S.Store.state (g.S.Store.hand key) on (down_within c.args.limit on.left (g.S.Store.state c.loop-i.store) (omega (arith, c.rows.ensures key on.ordered.kept, c.if-rows-limit.true)))

pub returns-in_err-force_one-clause-err : goal.returns-in_err-force_one-clause-err
returns-in_err-force_one-clause-err g c = λ key ordered.
    let p = err_from_is_err_and c.from_residual.result c.from_residual.ensures.1 in
    rw (p.1, c.in_err-force_one.ensures.err) (forces_part (g.S.Store.holds key) g.S.Store.state (g.S.Store.hand key) (c.loop-i.invariant key ordered))

pub returns-then-not-branch-clause-ok : goal.returns-then-not-branch-clause-ok
returns-then-not-branch-clause-ok g c = λ key ordered.
    let on = c.loop-i.invariant key ordered in
    let none = sym (c.in_ok-force_one.ensures.found key on.ordered.kept on.ordered.times) ∙ c.if-not-branch.true in
    forces_end (g.S.Store.holds key) g.S.Store.state (g.S.Store.hand key) Overflow c.force_one.new.self c.force_one.new.out.items on (down_none c.args.limit on.left (g.S.Store.state c.loop-i.store) none) none
    (c.in_ok-force_one.ensures.ok key on.ordered.kept on.ordered.times)

pub loop-i-preserved : goal.loop-i-preserved
loop-i-preserved g c = λ key ordered.
    let on = c.loop-i.invariant key ordered in
    let state = g.S.Store.state c.loop-i.store in
    let some = sym (c.in_ok-force_one.ensures.found key on.ordered.kept on.ordered.times) ∙ c.if-not-branch.false in
    let over : c.args.limit < length state.pending = omega (arith, c.rows.ensures key on.ordered.kept, c.if-rows-limit.false) in
    forces_more (g.S.Store.holds key) g.S.Store.state (g.S.Store.hand key) Overflow c.force_one.new.self c.force_one.new.out.items on some (λ n. down_over c.args.limit n state over) (c.in_ok-force_one.ensures.ok key on.ordered.kept on.ordered.times)

pub returns-clause-ok : goal.returns-clause-ok
returns-clause-ok g c = λ key ordered.
    let last : c.rows-most.result ≤ c.loop-i.i = omega (arith, c.loop-i-test.false) in
    forces_last (g.S.Store.holds key) g.S.Store.state (g.S.Store.hand key) (c.loop-i.invariant key ordered) last (λ state. refl)
