use Rattle.std.proofs.Common.{◌≤◌, refl, sym, ◌∙◌, arith}
use Rattle.std.proofs.lemmas.Result.{err_from_is_err_and}
use Rattle.txn_rows.specs.Grouping.{forced_often}
use Rattle.txn_rows.specs.Store.{test_of}
use Rattle.txn_rows.proofs.ForceAllLemmas.{often_none, forces_first, forces_end, forces_last, forces_more, forces_part}
use Rattle.txn_rows.proofs.forcing.force_all.Goals as goal

pub loop-i-init : goal.loop-i-init
loop-i-init g c = λ key ordered.
    forces_first (g.S.Store.holds key) g.S.Store.state (g.S.Store.hand key) c.args.grouping c.args.which (λ n. forced_often n (test_of c.args.which) c.args.cause) c.rows-most.result c.args.store.now c.args.out.now.items ordered (c.rows-most.ensures key ordered.kept)

pub returns-in_err-force_one-clause-err : goal.returns-in_err-force_one-clause-err
returns-in_err-force_one-clause-err g c = λ key ordered.
    let p = err_from_is_err_and c.from_residual.result c.from_residual.ensures.1 in
    rw (p.1, c.in_err-force_one.ensures.err) (forces_part (g.S.Store.holds key) g.S.Store.state (g.S.Store.hand key) (c.loop-i.invariant key ordered))

pub returns-then-not-branch-clause-ok : goal.returns-then-not-branch-clause-ok
returns-then-not-branch-clause-ok g c = λ key ordered.
    let on = c.loop-i.invariant key ordered in
    let state = g.S.Store.state c.loop-i.store in
    let none = sym (c.in_ok-force_one.ensures.found key on.ordered.kept on.ordered.times) ∙ c.if-not-branch.true in
    forces_end (g.S.Store.holds key) g.S.Store.state (g.S.Store.hand key) c.args.cause c.force_one.new.self c.force_one.new.out.items on (often_none on.left (test_of c.args.which) c.args.cause state none) none
    (c.in_ok-force_one.ensures.ok key on.ordered.kept on.ordered.times)

pub loop-i-preserved : goal.loop-i-preserved
loop-i-preserved g c = λ key ordered.
    let on = c.loop-i.invariant key ordered in
    let some = sym (c.in_ok-force_one.ensures.found key on.ordered.kept on.ordered.times) ∙ c.if-not-branch.false in
    forces_more (g.S.Store.holds key) g.S.Store.state (g.S.Store.hand key) c.args.cause c.force_one.new.self c.force_one.new.out.items on some (λ n. refl) (c.in_ok-force_one.ensures.ok key on.ordered.kept on.ordered.times)

pub returns-clause-ok : goal.returns-clause-ok
returns-clause-ok g c = λ key ordered.
    let last : c.rows-most.result ≤ c.loop-i.i = omega (arith, c.loop-i-test.false) in
    forces_last (g.S.Store.holds key) g.S.Store.state (g.S.Store.hand key) (c.loop-i.invariant key ordered) last (λ state. refl)
