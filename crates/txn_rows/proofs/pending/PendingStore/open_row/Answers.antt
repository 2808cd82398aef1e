use Rattle.std.proofs.Common.{◌≡◌, Bool, false, true, not, cond, map, ap, sym, ◌∙◌}
use Rattle.txn_rows.specs.Transaction.{is_open}
use Rattle.txn_rows.specs.Grouping.{with_new}
use Rattle.txn_rows.specs.Trees.{transaction_of}
use Rattle.txn_rows.specs.States.{state_of}
use Rattle.txn_rows.proofs.PendingLemmas.{open_at, open_none}
use Rattle.txn_rows.proofs.pending.PendingStore.open_row.Goals as goal
use Rattle.txn_rows.proofs.pending.PendingStore.open_row.Goals.{in-Some+else-not-index, in_default}

pub returns-then-not-index-clause-went : goal.returns-then-not-index-clause-went
returns-then-not-index-clause-went c = λ key trees.
    let p = c.args.self.now in
    let opened : is_open c.args.vxid (map transaction_of p.rows.items) ≡ true =
    open_at c.args.vxid c.in-Some.at p.rows.items c.index.result.now (rw c.deref.ensures.value at c.in-Some.ensures.some) c.index.ensures ∙ ap not c.if-not-index.true in
    record { kept = trees; told = ap (λ (b : Bool). cond b (state_of p) (with_new c.args.vxid (state_of p))) (sym opened) }

pub returns-clause-went : goal.returns-clause-went
returns-clause-went c = λ key trees.
    let p = c.args.self.now in
    let closed : is_open c.args.vxid (map transaction_of p.rows.items) ≡ false =
    elim c.match-newest_row.branch [
      | in-Some+else-not-index w ↦ open_at c.args.vxid w.in-Some.at p.rows.items w.index.result.now (rw c.deref.ensures.value at w.in-Some.ensures.some) w.index.ensures ∙ ap not w.if-not-index.false
      | in_default w ↦ open_none c.args.vxid (map transaction_of p.rows.items) (rw c.deref.ensures.value at w.in_default.ensures.none)
    ] in
    let now = c.in_ok-begin.ensures.went trees in
    record { kept = now.kept; told = now.told ∙ ap (λ (b : Bool). cond b (state_of p) (with_new c.args.vxid (state_of p))) (sym closed) }
