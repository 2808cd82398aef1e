use Rattle.std.proofs.Common.{subst}
use Rattle.std.specs.Result.{OnOk, OnErr}
use Rattle.std.proofs.lemmas.Result.{on_ok_weaker}
use Rattle.txn_rows.specs.Grouping.{flush}
use Rattle.txn_rows.specs.TableState.{TableState}
use Rattle.txn_rows.specs.Table.{TableStepped, TableFailed, itself}
use Rattle.txn_rows.specs.States.{state_of, StandInTrees}
use Rattle.txn_rows.proofs.TableLemmas.{stepped, failed_on, with_ok, flush_sound, flushed_none}
use Rattle.txn_rows.proofs.table.Table.flush.Goals as goal

pub invariant_of-self : goal.invariant_of-self
invariant_of-self c = λ kept.
    let t = c.self.inside in
    let sound = c.self.invariant c.if-self.false in
    flush_sound StandInTrees state_of itself t.options.limit t.options.grouping t.store c.flush_all-flushed.new.store c.args.out.now.items c.flush_all-flushed.new.out.items sound
    (with_ok c.flush_all-flushed.result (rw c.is_err-self-inside.ensures.value at kept) (c.flush_all-flushed.ensures.ok tt sound.ordered))

pub returns-clause-none : goal.returns-clause-none
returns-clause-none c =
    let t = c.self.inside in
    let sound = c.self.invariant c.if-self.false in
    on_ok_weaker c.flush_all-flushed.result
    (flushed_none StandInTrees state_of itself t.options.limit t.options.grouping t.store c.flush_all-flushed.new.store c.args.out.now.items c.flush_all-flushed.new.out.items sound)
    (c.flush_all-flushed.ensures.ok tt sound.ordered)

pub returns-clause-ok : goal.returns-clause-ok
returns-clause-ok c =
    let t = c.self.inside in
    let sound = c.self.invariant c.if-self.false in
    subst (λ (b : TableState). OnOk c.flush_all-flushed.result (TableStepped itself (flush b.state) b (record { options = t.options; state = state_of c.flush_all-flushed.new.store; failed = c.is_err-self-inside.result }) c.args.out.now.items c.flush_all-flushed.new.out.items)) c.self.view_is
    (stepped StandInTrees state_of itself c.flush_all-flushed.result (flush (state_of t.store)) (record { options = t.options; state = state_of t.store; failed = t.failed }) c.flush_all-flushed.new.store c.is_err-self-inside.result c.args.out.now.items c.flush_all-flushed.new.out.items c.if-self.false c.is_err-self-inside.ensures.value (c.flush_all-flushed.ensures.ok tt sound.ordered))

pub returns-clause-err : goal.returns-clause-err
returns-clause-err c =
    let t = c.self.inside in
    let sound = c.self.invariant c.if-self.false in
    subst (λ (b : TableState). OnErr c.flush_all-flushed.result (TableFailed itself (flush b.state) b (record { options = t.options; state = state_of c.flush_all-flushed.new.store; failed = c.is_err-self-inside.result }) c.args.out.now.items c.flush_all-flushed.new.out.items)) c.self.view_is
    (failed_on StandInTrees state_of itself c.flush_all-flushed.result (flush (state_of t.store)) (record { options = t.options; state = state_of t.store; failed = t.failed }) c.flush_all-flushed.new.store c.is_err-self-inside.result c.args.out.now.items c.flush_all-flushed.new.out.items c.is_err-self-inside.ensures.value (c.flush_all-flushed.ensures.err tt sound.ordered))
