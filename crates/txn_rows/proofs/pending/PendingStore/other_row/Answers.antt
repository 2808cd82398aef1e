use Rattle.std.proofs.Common.{◌≡◌, ℕ, Bool, false, true, cond, map, ap, sym, ◌∙◌}
use Rattle.txn_rows.specs.Transaction.{is_pending}
use Rattle.txn_rows.specs.Grouping.{with_new}
use Rattle.txn_rows.specs.Trees.{transaction_of}
use Rattle.txn_rows.specs.States.{state_of}
use Rattle.txn_rows.proofs.PendingLemmas.{pending_at}
use Rattle.txn_rows.proofs.pending.PendingStore.other_row.Goals as goal

pub returns-in-Some-clause-went : goal.returns-in-Some-clause-went
returns-in-Some-clause-went c = λ key trees.
    let p = c.args.self.now in
    let there = pending_at c.args.vxid c.in-Some.at p.rows.items (rw c.deref.ensures.value at c.in-Some.ensures.some) in
    record { kept = trees; told = ap (λ (b : Bool). cond b (state_of p) (with_new c.args.vxid (state_of p))) (sym there) }

pub returns-clause-went : goal.returns-clause-went
returns-clause-went c = λ key trees.
    let p = c.args.self.now in
    let none : is_pending c.args.vxid (map transaction_of p.rows.items) ≡ false = rw c.deref.ensures.value at c.in_default.ensures.none in
    let now = c.in_ok-begin.ensures.went trees in
    record { kept = now.kept; told = now.told ∙ ap (λ (b : Bool). cond b (state_of p) (with_new c.args.vxid (state_of p))) (sym none) }

pub returns-clause-keeps : goal.returns-clause-keeps
returns-clause-keeps c = λ v at is.
    let p = c.args.self.now in
    let none : is_pending c.args.vxid (map transaction_of p.rows.items) ≡ false = rw c.deref.ensures.value at c.in_default.ensures.none in
    c.in_ok-begin.ensures.keeps v at (λ e.
    let there : is_pending c.args.vxid (map transaction_of p.rows.items) ≡ true = ap (λ (n : ℕ). is_pending n (map transaction_of p.rows.items)) (sym e) ∙ pending_at v at p.rows.items is in
    let both : true ≡ false = sym there ∙ none in
    absurd (cc)) is
