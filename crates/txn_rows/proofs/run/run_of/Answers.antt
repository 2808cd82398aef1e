use Rattle.std.proofs.Common.{Option, ℕ, List, [], sym, subst, take}
use Rattle.vsl_record.specs.declared.record_type.Record.{Record}
use Rattle.txn_rows.specs.inside.Quiet.{IsRun}
use Rattle.txn_rows.proofs.QuietLemmas.{no_run, plain_is_run, plain_are_quiet}
use Rattle.txn_rows.proofs.run.run_of.Goals as goal

pub returns-then-eq-clause-quiet : goal.returns-then-eq-clause-quiet
returns-then-eq-clause-quiet g c = λ key ordered. subst (λ (t : Option ℕ). IsRun c.args.options (g.S.Store.state c.args.store.now) t []) (sym c.time-before.ensures) (no_run c.args.options (g.S.Store.state c.args.store.now))

pub returns-then-not-goes_on-clause-quiet : goal.returns-then-not-goes_on-clause-quiet
returns-then-not-goes_on-clause-quiet g c = λ key ordered.
    let state = g.S.Store.state c.args.store.now in
    let run : List Record = take c.plain_run-plain.result c.args.records.now in
    subst (λ (t : Option ℕ). IsRun c.args.options state t run) (sym c.time-before.ensures) (plain_is_run c.args.options state run c.plain_run-plain.ensures.plain)

pub quiet_run-requires-clause-quiet : goal.quiet_run-requires-clause-quiet
quiet_run-requires-clause-quiet g c = plain_are_quiet c.args.options.grouping c.last_in_time-last.result (take c.plain_run-plain.result c.args.records.now) c.time-before.result c.plain_run-plain.ensures.plain

pub returns-clause-quiet : goal.returns-clause-quiet
returns-clause-quiet g c = λ key ordered. record {
  last = c.last_in_time-last.result;
  none_late = c.last_in_time-last.ensures.late key ordered.kept ordered.times;
  are = rw c.time-before.ensures at c.quiet_run.ensures.quiet;
}
