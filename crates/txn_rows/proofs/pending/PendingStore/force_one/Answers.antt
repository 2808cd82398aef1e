use Rattle.std.proofs.Common.{List, ◌++◌, map, ap, sym, ◌∙◌, ◌≡◌, false}
use Rattle.std.specs.List.{list_any}
use Rattle.txn_rows.specs.declared.group.Group.{Group}
use Rattle.txn_rows.specs.Trees.{transaction_of}
use Rattle.txn_rows.specs.Store.{test_of}
use Rattle.txn_rows.specs.States.{state_of, StandInTrees}
use Rattle.txn_rows.proofs.ForceAllLemmas.{one_none, row_some}
use Rattle.txn_rows.proofs.TakeLemmas.{nothing_step}
use Rattle.txn_rows.proofs.TakeLemmas.{itself_is}
use Rattle.txn_rows.proofs.pending.PendingStore.force_one.Goals as goal

pub returns-in_default-clause-ok : goal.returns-in_default-clause-ok
returns-in_default-clause-ok c = λ key trees times.
    let p = c.args.self.now in
    let none : list_any (test_of c.args.which) (map transaction_of p.rows.items) ≡ false = rw c.deref.ensures.value at (c.in_default.ensures.none p.time) times in
    nothing_step StandInTrees state_of (λ g. g) c.args.grouping p c.args.out.now.items _ trees (one_none (test_of c.args.which) c.args.cause (state_of p) none)

pub returns-clause-ok : goal.returns-clause-ok
returns-clause-ok c = λ key trees times.
    let p = c.args.self.now in
    let is = rw c.deref.ensures.value at c.in-Some.ensures.some in
    let step = c.in_ok-force_at.ensures.ok (test_of c.args.which) p.begun p.time is trees in
    record { kept = step.trees; state = step.state; groups = step.groups ∙ ap (λ (gs : List Group). c.args.out.now.items ++ gs) (sym (itself_is _)) }

pub returns-clause-found : goal.returns-clause-found
returns-clause-found c = λ key trees times.
    let is = rw c.deref.ensures.value at c.in-Some.ensures.some in
    sym (row_some (test_of c.args.which) c.in-Some.at c.args.self.now.rows.items is)
