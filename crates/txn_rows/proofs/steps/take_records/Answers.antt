use Rattle.std.proofs.Common.{◌≡◌, ◌∙◌, List, [], take, drop, ap, sym, subst}
use Rattle.std.proofs.lemmas.List.{nil_from_length, take-append-drop}
use Rattle.std.proofs.lemmas.Bool.{eqb-true}
use Rattle.vsl_record.specs.declared.record_type.Record.{Record}
use Rattle.txn_rows.specs.Grouping.{Leaving, steps, then_left}
use Rattle.txn_rows.specs.inside.Steps.{GoesOn}
use Rattle.txn_rows.proofs.TakeLemmas.{nothing_step, goes_then}
use Rattle.txn_rows.proofs.PlainLemmas.{steps_both}
use Rattle.txn_rows.proofs.TimeLemmas.{some_ordered}
use Rattle.txn_rows.proofs.steps.take_records.Goals as goal

pub loop-rest-preserved : goal.loop-rest-preserved
loop-rest-preserved g c =
    let l = c.loop-rest in
    let o = c.args.options in
    let n = c.in_ok-count.count in
    let state = g.S.Store.state l.store in
    let all = steps o c.args.vxid c.args.records.now (g.S.Store.state c.args.store.now) in
    let both : steps o c.args.vxid l.rest state ≡ then_left (steps o c.args.vxid (take n l.rest) state) (steps o c.args.vxid (drop n l.rest)) =
    ap (λ (rs : List Record). steps o c.args.vxid rs state) (sym (take-append-drop n l.rest)) ∙ steps_both o c.args.vxid (take n l.rest) (drop n l.rest) state in
    rw c.split_at-behind.ensures.back (record {
      ordered = λ key ordered. some_ordered (g.S.Store.holds key) g.S.Store.state (g.S.Store.hand key) o c.args.vxid (take n l.rest) (l.invariant.ordered key ordered) (c.in_ok-count.ensures.ok key (l.invariant.ordered key ordered));
      on = λ key ordered.
          let on = subst (λ (s : Leaving). GoesOn (g.S.Store.holds key) g.S.Store.state (g.S.Store.hand key) o.grouping all s c.args.out.now.items l.out.items) both (l.invariant.on key ordered) in
          goes_then (g.S.Store.holds key) g.S.Store.state (g.S.Store.hand key) o.grouping all (steps o c.args.vxid (take n l.rest) state) (steps o c.args.vxid (drop n l.rest)) on (c.in_ok-count.ensures.ok key (l.invariant.ordered key ordered));
      known = c.in_ok-count.ensures.known;
    })

pub returns-clause-ok : goal.returns-clause-ok
returns-clause-ok g c = λ key ordered.
    let l = c.loop-rest in
    let o = c.args.options in
    let none : l.rest ≡ [] = nil_from_length l.rest (eqb-true _ _ (sym c.is_empty.ensures ∙ c.loop-rest-test.false)) in
    (l.invariant.on key ordered).whole l.store l.out.items
    (nothing_step (g.S.Store.holds key) g.S.Store.state (g.S.Store.hand key) o.grouping l.store l.out.items (steps o c.args.vxid l.rest (g.S.Store.state l.store)) (l.invariant.ordered key ordered).kept (ap (λ (rs : List Record). steps o c.args.vxid rs (g.S.Store.state l.store)) none))
