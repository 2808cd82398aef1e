use Rattle.std.proofs.Common.{List, map, refl, sym, ap, ◌∙◌, subst}
use Rattle.txn_rows.specs.Transaction.{Transaction}
use Rattle.txn_rows.specs.Grouping.{raised, timed, at_time}
use Rattle.txn_rows.specs.Trees.{transaction_of, AreTrees, IsNewestRow}
use Rattle.txn_rows.specs.inside.Rows.{row_told}
use Rattle.txn_rows.specs.States.{state_of, state_with}
use Rattle.txn_rows.proofs.StandLemmas.{trees_kept, told_keeps, rows_told}
use Rattle.txn_rows.proofs.PendingLemmas.{newest_timed}
use Rattle.txn_rows.proofs.TimeLemmas.{time_known}
use Rattle.txn_rows.proofs.pending.PendingStore.raise.Goals as goal

pub returns-then-is_some-clause-went : goal.returns-then-is_some-clause-went
returns-then-is_some-clause-went c = λ key trees times.
    let p = c.args.self.now in
    let stay = time_known c.args.told p.time (map transaction_of p.rows.items) (sym c.is_some.ensures ∙ c.if-is_some.true) times in
    record {
      kept = trees;
      told =
          ap (λ time. state_with p.begun time p.rows.items) c.raised-now.ensures
          ∙ ap (λ (ts : List Transaction). record { pending = ts; begun = p.begun; time = raised c.args.told p.time }) (sym stay);
    }

pub returns-clause-went : goal.returns-clause-went
returns-clause-went c = λ key trees times.
    let p = c.args.self.now in
    let now = c.raised-now.result in
    let items = c.time_rows.ensures in
    record {
      kept = subst (AreTrees p.begun) (sym items) (trees_kept p.begun (row_told (timed now)) p.rows.items (told_keeps (timed now) p.rows.items) trees);
      told =
          ap (λ rows. state_with p.begun now rows) items
          ∙ ap (λ (ts : List Transaction). record { pending = ts; begun = p.begun; time = now }) (rows_told (timed now) (record { serial = λ t. refl; parent = λ t. refl }) p.rows.items)
          ∙ ap (λ time. at_time time (state_of p)) c.raised-now.ensures;
    }

pub returns-clause-newest : goal.returns-clause-newest
returns-clause-newest c = λ v at is. subst (IsNewestRow v at) (sym c.time_rows.ensures) (newest_timed v at c.raised-now.result c.args.self.now.rows.items is)
