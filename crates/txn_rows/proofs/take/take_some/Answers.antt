use Rattle.std.proofs.Common.{◌≡◌, List, sym, ◌∙◌, ap, subst, drop, take}
use Rattle.std.proofs.lemmas.Result.{err_from_is_err_and}
use Rattle.vsl_record.specs.declared.record_type.Record.{Record}
use Rattle.txn_rows.specs.Grouping.{State, Leaving, step, steps}
use Rattle.txn_rows.specs.Store.{WentBy, AddsPart}
use Rattle.txn_rows.specs.inside.Quiet.{IsRun}
use Rattle.txn_rows.proofs.TakeLemmas.{part_first}
use Rattle.txn_rows.proofs.PlainLemmas.{one_step, first_of, first_and_more}
use Rattle.txn_rows.proofs.QuietLemmas.{run_left}
use Rattle.txn_rows.proofs.TimeLemmas.{still_ordered}
use Rattle.txn_rows.proofs.take.take_some.Goals as goal

pub returns-in-Some-clause-ok : goal.returns-in-Some-clause-ok
returns-in-Some-clause-ok g c = λ key ordered.
    let o = c.args.options in
    let run : List Record = take c.run_of-count.result.0 c.args.records.now in
    let went = c.run_of-count.ensures.went key ordered.kept in
    let now = still_ordered (g.S.Store.holds key) g.S.Store.state (g.S.Store.hand key) ordered went in
    let is = subst (λ (s : State). IsRun o s c.run_of-count.result.1 run) (sym went.told) (c.run_of-count.ensures.quiet key ordered) in
    let taken = rw c.split_at-run.ensures.front at (c.in_ok-take_run.ensures.went key o now) in
    subst (λ (s : State). WentBy (g.S.Store.holds key) g.S.Store.state (g.S.Store.hand key) o.grouping (steps o c.args.vxid run s) c.take_run.new.store c.args.out.now.items c.args.out.now.items) went.told
    (run_left (g.S.Store.holds key) g.S.Store.state (g.S.Store.hand key) o c.args.vxid run c.run_of-count.result.1 c.run_of-count.new.store c.take_run.new.store c.args.out.now.items (c.run_of-count.ensures.grouped c.if-count-gt0.true) now is (c.in-Some.ensures.open key now.kept) (c.in-Some.ensures.few key now.kept) (taken is))

pub returns-in_err-take_one-clause-err : goal.returns-in_err-take_one-clause-err
returns-in_err-take_one-clause-err g c = λ key ordered.
    let o = c.args.options in
    let went = c.run_of-count.ensures.went key ordered.kept in
    let now = still_ordered (g.S.Store.holds key) g.S.Store.state (g.S.Store.hand key) ordered went in
    let all : List Record = c.args.records.now in
    let q = err_from_is_err_and c.from_residual-in_err-take_one.result c.from_residual-in_err-take_one.ensures.1 in
    let state = g.S.Store.state c.run_of-count.new.store in
    let part = part_first (g.S.Store.hand key) o.grouping (step o c.args.vxid c.get.result state) (steps o c.args.vxid (drop 1 all)) (c.in_err-take_one.ensures.err key now) in
    rw q.1 (subst (λ (s : State). AddsPart (g.S.Store.hand key) o.grouping (steps o c.args.vxid all s) c.args.out.now.items c.take_one.new.out.items) went.told
    (subst (λ (rs : List Record). AddsPart (g.S.Store.hand key) o.grouping (steps o c.args.vxid rs state) c.args.out.now.items c.take_one.new.out.items) (first_and_more all c.get.result c.requires.some c.get.ensures) part))

pub returns-clause-ok : goal.returns-clause-ok
returns-clause-ok g c = λ key ordered.
    let o = c.args.options in
    let went = c.run_of-count.ensures.went key ordered.kept in
    let now = still_ordered (g.S.Store.holds key) g.S.Store.state (g.S.Store.hand key) ordered went in
    let all : List Record = c.args.records.now in
    let state = g.S.Store.state c.args.store.now in
    let one = subst (λ (s : State). WentBy (g.S.Store.holds key) g.S.Store.state (g.S.Store.hand key) o.grouping (step o c.args.vxid c.get.result s) c.take_one.new.store c.args.out.now.items c.take_one.new.out.items) went.told (c.in_ok-take_one.ensures.ok key now) in
    let same : step o c.args.vxid c.get.result state ≡ steps o c.args.vxid (take 1 all) state = sym (ap (λ (rs : List Record). steps o c.args.vxid rs state) (first_of all c.get.result c.requires.some c.get.ensures) ∙ one_step o c.args.vxid c.get.result state) in
    subst (λ (l : Leaving). WentBy (g.S.Store.holds key) g.S.Store.state (g.S.Store.hand key) o.grouping l c.take_one.new.store c.args.out.now.items c.take_one.new.out.items) same one
