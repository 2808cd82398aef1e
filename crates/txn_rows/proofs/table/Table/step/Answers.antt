use Rattle.std.proofs.Common.{subst}
use Rattle.std.specs.Result.{OnOk, OnErr}
use Rattle.std.proofs.lemmas.Result.{on_ok_weaker}
use Rattle.txn_rows.specs.Grouping.{unit_step}
use Rattle.txn_rows.specs.TableState.{TableState}
use Rattle.txn_rows.specs.Table.{TableStepped, TableFailed, itself}
use Rattle.txn_rows.specs.States.{state_of, StandInTrees}
use Rattle.txn_rows.proofs.TableLemmas.{stepped, failed_on, with_ok, unit_sound}
use Rattle.txn_rows.proofs.table.Table.step.Goals as goal

pub invariant_of-self : goal.invariant_of-self
invariant_of-self c = λ kept.
    let t = c.self.inside in
    let sound = c.self.invariant c.if-self.false in
    unit_sound StandInTrees state_of itself t.options c.args.unit.now t.store c.take_unit-taken.new.store c.args.out.now.items c.take_unit-taken.new.out.items sound
    (with_ok c.take_unit-taken.result (rw c.is_err-self-inside.ensures.value at kept) (c.take_unit-taken.ensures.ok tt sound.ordered))

pub returns-clause-limit : goal.returns-clause-limit
returns-clause-limit c =
    let t = c.self.inside in
    let sound = c.self.invariant c.if-self.false in
    on_ok_weaker c.take_unit-taken.result
    (λ went. (unit_sound StandInTrees state_of itself t.options c.args.unit.now t.store c.take_unit-taken.new.store c.args.out.now.items c.take_unit-taken.new.out.items sound went).within)
    (c.take_unit-taken.ensures.ok tt sound.ordered)

pub returns-clause-ok : goal.returns-clause-ok
returns-clause-ok c =
    let t = c.self.inside in
    let sound = c.self.invariant c.if-self.false in
    subst (λ (b : TableState). OnOk c.take_unit-taken.result (TableStepped itself (unit_step b.options c.args.unit.now b.state) b (record { options = t.options; state = state_of c.take_unit-taken.new.store; failed = c.is_err-self-inside.result }) c.args.out.now.items c.take_unit-taken.new.out.items)) c.self.view_is
    (stepped StandInTrees state_of itself c.take_unit-taken.result (unit_step t.options c.args.unit.now (state_of t.store)) (record { options = t.options; state = state_of t.store; failed = t.failed }) c.take_unit-taken.new.store c.is_err-self-inside.result c.args.out.now.items c.take_unit-taken.new.out.items c.if-self.false c.is_err-self-inside.ensures.value (c.take_unit-taken.ensures.ok tt sound.ordered))

pub returns-clause-err : goal.returns-clause-err
returns-clause-err c =
    let t = c.self.inside in
    let sound = c.self.invariant c.if-self.false in
    subst (λ (b : TableState). OnErr c.take_unit-taken.result (TableFailed itself (unit_step b.options c.args.unit.now b.state) b (record { options = t.options; state = state_of c.take_unit-taken.new.store; failed = c.is_err-self-inside.result }) c.args.out.now.items c.take_unit-taken.new.out.items)) c.self.view_is
    (failed_on StandInTrees state_of itself c.take_unit-taken.result (unit_step t.options c.args.unit.now (state_of t.store)) (record { options = t.options; state = state_of t.store; failed = t.failed }) c.take_unit-taken.new.store c.is_err-self-inside.result c.args.out.now.items c.take_unit-taken.new.out.items c.is_err-self-inside.ensures.value (c.take_unit-taken.ensures.err tt sound.ordered))
