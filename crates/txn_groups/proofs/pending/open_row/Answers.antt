use Rattle.std.proofs.Common.{◌≡◌, Bool, true, false, not, None, cond, OnOk, ap, sym, ◌∙◌, subst}
use Rattle.std.specs.Prelude.{Option}
use Rattle.std.specs.Option.{option_map_or}
use Rattle.txn_rows.specs.Transaction.{is_open}
use Rattle.txn_rows.specs.Grouping.{State, with_new}
use Rattle.txn_groups.specs.declared.node.Node.{Node}
use Rattle.txn_groups.specs.inside.Nodes.{listed}
use Rattle.txn_groups.specs.inside.Indexed.{newest_in}
use Rattle.txn_groups.specs.inside.Held.{state_of, Went}
use Rattle.txn_groups.proofs.IndexLemmas.{newest_at, newest_none}
use Rattle.txn_rows.proofs.PendingLemmas.{open_none}
use Rattle.txn_groups.proofs.pending.open_row.Goals as goal
use Rattle.txn_groups.proofs.pending.open_row.Goals.{in-Some+else-not-is_ended, in_default}

pub returns-then-not-is_ended-clause-went : goal.returns-then-not-is_ended-clause-went
returns-then-not-is_ended-clause-went c = λ held.
    let p = c.args.pending.now in
    let q = c.seek.new.pending in
    let went = c.seek.ensures.went held in
    let n = newest_at q.begun q.nodes.items q.order.items went.kept.stand c.args.vxid c.in-Some.at (newest_in q.index c.args.vxid) went.kept.are (went.kept.index c.args.vxid) (c.seek.ensures.index c.args.vxid ∙ sym c.seek.ensures.newest ∙ c.in-Some.is) in
    let ended : c.is_ended.result ≡ n.node.ended = (rw c.deref.ensures.value at c.is_ended.ensures) ∙ ap (λ (o : Option Node). option_map_or (λ (x : Node). x.ended) o true) n.there.here in
    let opened : is_open c.args.vxid (listed q.nodes.items q.order.items) ≡ true = n.newest.is_open ∙ ap not (sym ended ∙ c.if-not-is_ended.true) in
    record { kept = went.kept; told = went.told ∙ ap (λ (b : Bool). cond b (state_of p) (with_new c.args.vxid (state_of p))) (sym (ap (λ (s : State). is_open c.args.vxid s.pending) (sym went.told) ∙ opened)) }

pub returns-clause-went : goal.returns-clause-went
returns-clause-went c = λ held.
    let p = c.args.pending.now in
    let q = c.seek.new.pending in
    let went = c.seek.ensures.went held in
    let told : newest_in q.index c.args.vxid ≡ c.seek.result = c.seek.ensures.index c.args.vxid ∙ sym c.seek.ensures.newest in
    let closed : is_open c.args.vxid (listed q.nodes.items q.order.items) ≡ false =
    elim c.match-seek.branch [
      | in-Some+else-not-is_ended w ↦
          let n = newest_at q.begun q.nodes.items q.order.items went.kept.stand c.args.vxid w.in-Some.at (newest_in q.index c.args.vxid) went.kept.are (went.kept.index c.args.vxid) (told ∙ w.in-Some.is) in
          let ended : w.is_ended.result ≡ n.node.ended = (rw w.deref.ensures.value at w.is_ended.ensures) ∙ ap (λ (o : Option Node). option_map_or (λ (x : Node). x.ended) o true) n.there.here in
          n.newest.is_open ∙ ap not (sym ended ∙ w.if-not-is_ended.false)
      | in_default w ↦
          open_none c.args.vxid (listed q.nodes.items q.order.items) (newest_none q.nodes.items q.order.items c.args.vxid (newest_in q.index c.args.vxid) (went.kept.index c.args.vxid) (told ∙ w.in_default.is))
    ] in
    let begun = subst (λ (b : Bool). OnOk c.begin.result (Went (cond b (state_of q) (with_new c.args.vxid (state_of q))) c.begin.new.pending)) (sym closed) (c.begin.ensures.went went.kept) in
    subst (λ (s : State). OnOk c.begin.result (Went (cond (is_open c.args.vxid s.pending) s (with_new c.args.vxid s)) c.begin.new.pending)) went.told begun
