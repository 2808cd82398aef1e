use Rattle.std.proofs.Common.{refl, ◌∙◌}
use Rattle.txn_rows.specs.Grouping.{State}
use Rattle.txn_rows.specs.Transaction.{with_newest, longer_by}
use Rattle.txn_groups.specs.declared.trees.Trees.{Trees}
use Rattle.txn_groups.specs.declared.pending.Pending.{Pending}
use Rattle.txn_groups.specs.inside.Trees.{state_of_trees}
use Rattle.txn_groups.proofs.NoneBelowLemmas.{low_newest, longer_by_keeps}
use Rattle.txn_groups.proofs.TreesLemmas.{add_all, trees_go}
use Rattle.txn_groups.proofs.trees.TreesStore.add_run.Goals as goal

pub returns-clause-went : goal.returns-clause-went
returns-clause-went c = λ queries trees.
    let t : Trees = c.args.self.now in
    let p : Pending = t.pending in
    let mid : Pending = record p { nodes = c.mark_at.new.nodes } in
    let q : Pending = c.add_run.new.pending in
    let f = λ (s : State). record s { pending = with_newest c.args.vxid (longer_by c.args.run.now) s.pending } in
    let all = add_all c.add_run.result queries _ c.args.vxid c.args.at (longer_by c.args.run.now) c.args.run.now f p mid q trees.asks trees.held c.requires trees.marked
    (λ x. refl) (λ x. refl) c.in_ok-mark_at.ensures.marks refl refl refl refl refl refl
    (λ held. c.add_run.ensures.went c.args.vxid held c.requires) c.add_run.ensures.changed in
    trees_go c.add_run.result queries (record t { pending = q; askers = c.mark_at.new.askers }) _ (low_newest t.low c.args.vxid (longer_by c.args.run.now) (state_of_trees t) (longer_by_keeps c.args.run.now) trees.low) (record { asks = c.mark_at.ensures.same ∙ trees.asks; none = trees.unmarked }) all.0 all.1
