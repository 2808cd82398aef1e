use Rattle.std.proofs.Common.{refl, ◌∙◌, [], ◌∷◌}
use Rattle.txn_rows.specs.Grouping.{State}
use Rattle.txn_rows.specs.Transaction.{with_record, with_kind}
use Rattle.txn_rows.specs.inside.Rows.{with_one}
use Rattle.txn_groups.proofs.ToldWentLemmas.{one_keeps, one_longer}
use Rattle.txn_groups.specs.declared.trees.Trees.{Trees}
use Rattle.txn_groups.specs.declared.pending.Pending.{Pending}
use Rattle.txn_groups.specs.inside.Trees.{state_of_trees}
use Rattle.txn_groups.proofs.NoneBelowLemmas.{low_added}
use Rattle.txn_groups.proofs.TreesLemmas.{add_all, trees_go}
use Rattle.txn_groups.proofs.trees.TreesStore.add_to.Goals as goal

pub returns-clause-went : goal.returns-clause-went
returns-clause-went c = λ queries trees.
    let t : Trees = c.args.self.now in
    let p : Pending = t.pending in
    let mid : Pending = record p { nodes = c.mark_at.new.nodes } in
    let q : Pending = c.add_to.new.pending in
    let f = λ (s : State). record s { pending = with_kind c.args.vxid c.args.rec.now (with_record c.args.vxid c.args.rec.now s.pending) } in
    let all = add_all c.add_to.result queries _ c.args.vxid c.args.at (with_one c.args.rec.now) (c.args.rec.now ∷ []) f p mid q trees.asks trees.held c.requires.newest trees.marked
    (one_keeps c.args.rec.now).vxid (one_longer c.args.rec.now) c.in_ok-mark_at.ensures.marks refl refl refl refl refl refl
    (λ held. c.add_to.ensures.went c.args.vxid held c.requires.newest) c.add_to.ensures.changed in
    trees_go c.add_to.result queries (record t { pending = q; askers = c.mark_at.new.askers }) _ (low_added t.low c.args.vxid c.args.rec.now (state_of_trees t) trees.low) (record { asks = c.mark_at.ensures.same ∙ trees.asks; none = trees.unmarked }) all.0 all.1
