use Rattle.std.proofs.Common.{subst}
use Rattle.std.specs.Result.{OnOk}
use Rattle.txn_rows.specs.Grouping.{force}
use Rattle.txn_rows.specs.TableState.{TableState}
use Rattle.txn_rows.specs.Table.{TableStepped, itself}
use Rattle.txn_rows.specs.States.{state_of, StandInTrees}
use Rattle.txn_rows.proofs.TableLemmas.{stepped, with_ok, force_sound}
use Rattle.txn_rows.proofs.table.Table.force.Goals as goal

pub invariant_of-self : goal.invariant_of-self
invariant_of-self c = λ kept.
    let t = c.self.inside in
    let sound = c.self.invariant c.if-self.false in
    force_sound StandInTrees state_of itself t.options.limit t.options.grouping c.args.cause t.store c.force_oldest-forced.new.store c.args.out.now.items c.force_oldest-forced.new.out.items sound
    (with_ok c.force_oldest-forced.result (rw c.is_err-self-inside.ensures.value at kept) (c.force_oldest-forced.ensures.ok tt sound.ordered))

pub returns-clause-ok : goal.returns-clause-ok
returns-clause-ok c =
    let t = c.self.inside in
    let sound = c.self.invariant c.if-self.false in
    subst (λ (b : TableState). OnOk c.force_oldest-forced.result (TableStepped itself (force c.args.cause b.state) b (record { options = t.options; state = state_of c.force_oldest-forced.new.store; failed = c.is_err-self-inside.result }) c.args.out.now.items c.force_oldest-forced.new.out.items)) c.self.view_is
    (stepped StandInTrees state_of itself c.force_oldest-forced.result (force c.args.cause (state_of t.store)) (record { options = t.options; state = state_of t.store; failed = t.failed }) c.force_oldest-forced.new.store c.is_err-self-inside.result c.args.out.now.items c.force_oldest-forced.new.out.items c.if-self.false c.is_err-self-inside.ensures.value (c.force_oldest-forced.ensures.ok tt sound.ordered))
