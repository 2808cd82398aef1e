use Rattle.std.proofs.Common.{ap, ◌∙◌}
use Rattle.std.proofs.lemmas.Result.{on_ok_weaker}
use Rattle.txn_rows.specs.Grouping.{State, with_claim, with_log_time}
use Rattle.txn_rows.specs.Transaction.{with_record, with_kind}
use Rattle.txn_rows.proofs.TimeLemmas.{added_ordered}
use Rattle.txn_rows.proofs.take.tell.Goals as goal

pub returns : goal.returns
returns g c = λ key ordered.
    let vxid = c.args.vxid in
    let rec = c.args.rec.now in
    let begun = c.in_ok-at.ensures.went key ordered.kept in
    let added = c.in_ok-add_to.ensures.went key begun.kept in
    let follows : State → State = λ s. with_log_time rec (with_claim c.args.grouping vxid rec s) in
    let told = added.told ∙ ap (λ (s : State). record s { pending = with_kind vxid rec (with_record vxid rec s.pending) }) begun.told in
    on_ok_weaker c.follow.result (λ went. record { kept = went.kept; told = went.told ∙ ap follows told })
    (c.follow.ensures rec c.read_told-told.ensures key (added_ordered (g.S.Store.holds key) g.S.Store.state (g.S.Store.hand key) vxid rec (g.S.Store.state c.args.store.now) ordered.times begun added))
