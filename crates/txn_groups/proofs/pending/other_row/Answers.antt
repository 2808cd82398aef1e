use Rattle.std.proofs.Common.{◌≡◌, Bool, None, cond, OnOk, ap, sym, ◌∙◌, subst}
use Rattle.txn_rows.specs.Transaction.{is_pending}
use Rattle.txn_rows.specs.Grouping.{State, with_new}
use Rattle.txn_groups.specs.inside.Indexed.{newest_in}
use Rattle.txn_groups.specs.inside.Held.{state_of, Went}
use Rattle.txn_groups.proofs.IndexLemmas.{newest_at, newest_none}
use Rattle.txn_groups.proofs.pending.other_row.Goals as goal

pub returns-in-Some-clause-went : goal.returns-in-Some-clause-went
returns-in-Some-clause-went c = λ held.
    let p = c.args.pending.now in
    let q = c.seek.new.pending in
    let went = c.seek.ensures.went held in
    let n = newest_at q.begun q.nodes.items q.order.items went.kept.stand c.args.vxid c.in-Some.at (newest_in q.index c.args.vxid) went.kept.are (went.kept.index c.args.vxid) (c.seek.ensures.index c.args.vxid ∙ sym c.seek.ensures.newest ∙ c.in-Some.is) in
    record { kept = went.kept; told = went.told ∙ ap (λ (b : Bool). cond b (state_of p) (with_new c.args.vxid (state_of p))) (sym (ap (λ (s : State). is_pending c.args.vxid s.pending) (sym went.told) ∙ n.newest.pending)) }

pub returns-clause-went : goal.returns-clause-went
returns-clause-went c = λ held.
    let q = c.seek.new.pending in
    let went = c.seek.ensures.went held in
    let told : newest_in q.index c.args.vxid ≡ None = c.seek.ensures.index c.args.vxid ∙ sym c.seek.ensures.newest ∙ c.in_default.is in
    let none = newest_none q.nodes.items q.order.items c.args.vxid (newest_in q.index c.args.vxid) (went.kept.index c.args.vxid) told in
    let begun = subst (λ (b : Bool). OnOk c.begin.result (Went (cond b (state_of q) (with_new c.args.vxid (state_of q))) c.begin.new.pending)) (sym none) (c.begin.ensures.went went.kept) in
    subst (λ (s : State). OnOk c.begin.result (Went (cond (is_pending c.args.vxid s.pending) s (with_new c.args.vxid s)) c.begin.new.pending)) went.told begun
