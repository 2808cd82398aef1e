use Rattle.std.proofs.Common.{◌≡◌, ℕ, Bool, true, eqb, cond, sym, ap, ◌∙◌}
use Rattle.std.proofs.lemmas.Bool.{not-false}
use Rattle.vsl_tags.specs.Tags.{end_tag}
use Rattle.txn_rows.specs.Grouping.{ended_one, nothing_left}
use Rattle.txn_rows.proofs.TakeLemmas.{ended_none, nothing_step}
use Rattle.txn_rows.proofs.take.take_end.Goals as goal

pub returns-in-None-clause-ok : goal.returns-in-None-clause-ok
returns-in-None-clause-ok g c = λ rec is key kept.
    let store = c.args.store.now in
    let state = g.S.Store.state store in
    let is_end : eqb rec.tag end_tag ≡ true = ap (λ (t : ℕ). eqb t end_tag) is ∙ not-false (eqb c.args.tag end_tag) (sym c.ne.ensures ∙ c.if-ne.false) in
    nothing_step (g.S.Store.holds key) g.S.Store.state (g.S.Store.hand key) c.args.grouping store c.args.out.now.items _ kept
    (ap (λ (b : Bool). cond b (ended_one c.args.vxid state) (nothing_left state)) is_end ∙ ended_none c.args.vxid state (c.in-None.ensures.none key kept))
