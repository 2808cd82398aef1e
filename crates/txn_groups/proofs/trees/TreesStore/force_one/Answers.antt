use Rattle.std.proofs.Common.{◌≡◌, Some, refl, sym, ap, ◌∙◌, subst}
use Rattle.txn_groups.specs.inside.Held.{state_of}
use Rattle.txn_rows.specs.Transaction.{Transaction, oldest}
use Rattle.txn_rows.specs.Grouping.{State, forced_one}
use Rattle.txn_rows.specs.Store.{test_of}
use Rattle.txn_rows.proofs.ForceAllLemmas.{none_meant, first_not_meant, oldest_meant, oldest_some, one_none}
use Rattle.txn_rows.proofs.TakeLemmas.{nothing_step}
use Rattle.txn_groups.specs.declared.trees.Trees.{Trees}
use Rattle.txn_groups.specs.declared.pending.Pending.{Pending}
use Rattle.txn_groups.specs.Groups.{chosen}
use Rattle.txn_groups.specs.inside.Nodes.{transaction_of_node}
use Rattle.txn_groups.specs.inside.Leaves.{WentBy}
use Rattle.txn_groups.specs.inside.Trees.{IsTrees, state_of_trees}
use Rattle.txn_groups.proofs.NoneBelowLemmas.{low_forced}
use Rattle.txn_groups.proofs.TreesLemmas.{oldest_met, ready_to_force, trees_went_by}
use Rattle.txn_groups.proofs.trees.TreesStore.force_one.Goals as goal

pub returns-in_default-clause-ok : goal.returns-in_default-clause-ok
returns-in_default-clause-ok c = λ queries trees times.
    let t : Trees = c.args.self.now in
    let none = none_meant c.args.which (state_of_trees t).pending (c.in_default.ensures.none trees.held trees.low) in
    nothing_step (IsTrees queries) state_of_trees (chosen queries) c.args.grouping (record t { low = c.seek_oldest.new.low }) c.args.out.now.items _ (record { held = trees.held; low = c.in_default.ensures.raised trees.held trees.low; asks = trees.asks; marked = trees.marked; unmarked = trees.unmarked }) (one_none _ c.args.cause (state_of_trees t) none)

pub returns-in_default-clause-found : goal.returns-in_default-clause-found
returns-in_default-clause-found c = λ queries trees times. sym (none_meant c.args.which (state_of_trees c.args.self.now).pending (c.in_default.ensures.none trees.held trees.low))

pub returns-then-not-is_met-clause-ok : goal.returns-then-not-is_met-clause-ok
returns-then-not-is_met-clause-ok c = λ queries trees times.
    let t : Trees = c.args.self.now in
    let o = c.in-Some.ensures.some trees.held trees.low in
    let met = oldest_met c.args.which t.pending c.in-Some.at c.index-node.result.now c.is_met.result o c.in-Some.ensures.within c.index-node.ensures c.is_met.ensures in
    let none = first_not_meant c.args.which t.pending.time (transaction_of_node o.node) (state_of_trees t).pending times o.is (sym met ∙ c.if-not-is_met.true) in
    nothing_step (IsTrees queries) state_of_trees (chosen queries) c.args.grouping (record t { low = c.seek_oldest.new.low }) c.args.out.now.items _ (record { held = trees.held; low = c.in-Some.ensures.raised trees.held trees.low; asks = trees.asks; marked = trees.marked; unmarked = trees.unmarked }) (one_none _ c.args.cause (state_of_trees t) none)

pub returns-then-not-is_met-clause-found : goal.returns-then-not-is_met-clause-found
returns-then-not-is_met-clause-found c = λ queries trees times.
    let t : Trees = c.args.self.now in
    let o = c.in-Some.ensures.some trees.held trees.low in
    let met = oldest_met c.args.which t.pending c.in-Some.at c.index-node.result.now c.is_met.result o c.in-Some.ensures.within c.index-node.ensures c.is_met.ensures in
    let none = first_not_meant c.args.which t.pending.time (transaction_of_node o.node) (state_of_trees t).pending times o.is (sym met ∙ c.if-not-is_met.true) in
    sym none

pub returns-clause-ok : goal.returns-clause-ok
returns-clause-ok c = λ queries trees times.
    let t : Trees = c.args.self.now in
    let p : Pending = t.pending in
    let mid : Pending = record p { nodes = c.mark_forced.new.nodes } in
    let q : Pending = c.force_at.new.pending in
    let test = test_of c.args.which in
    let o = c.in-Some.ensures.some trees.held trees.low in
    let met = oldest_met c.args.which p c.in-Some.at c.index-node.result.now c.is_met.result o c.in-Some.ensures.within c.index-node.ensures c.is_met.ensures in
    let first = oldest_meant c.args.which (transaction_of_node o.node) (state_of_trees t).pending o.is (sym met ∙ c.if-not-is_met.false) in
    let low = low_forced c.seek_oldest.new.low test c.args.cause (state_of_trees t) (c.in-Some.ensures.raised trees.held trees.low) in
    let ready = ready_to_force queries _ c.args.cause c.in-Some.at p mid o.node trees.asks trees.held trees.marked o.there (c.in_ok-mark_forced.ensures.marks o.node o.there) refl refl refl refl refl refl in
    let asks = c.mark_forced.ensures.same ∙ trees.asks in
    let unended = ready.unended ∙ o.unended in
    let oldest_is : oldest test (state_of mid).pending ≡ Some (transaction_of_node ready.node) = ap (λ (s : State). oldest test s.pending) ready.state ∙ first ∙ ap (λ (x : Transaction). Some x) (sym ready.same) in
    trees_went_by queries (record t { pending = q; low = c.seek_oldest.new.low; askers = c.mark_forced.new.askers }) c.args.grouping (forced_one test c.args.cause (state_of_trees t)) c.args.out.now.items c.force_at.new.out.items low (record { asks = asks; none = trees.unmarked })
    (c.in_ok-force_at.ensures.marks queries ready.node ready.held ready.there unended asks ready.ahead)
    (subst (λ (s : State). WentBy (chosen queries) c.args.grouping (forced_one test c.args.cause s) q c.args.out.now.items c.force_at.new.out.items) ready.state
    (c.in_ok-force_at.ensures.ok queries test ready.node ready.held ready.there unended oldest_is asks ready.ahead))

pub returns-clause-found : goal.returns-clause-found
returns-clause-found c = λ queries trees times.
    let t : Trees = c.args.self.now in
    let o = c.in-Some.ensures.some trees.held trees.low in
    let met = oldest_met c.args.which t.pending c.in-Some.at c.index-node.result.now c.is_met.result o c.in-Some.ensures.within c.index-node.ensures c.is_met.ensures in
    let first = oldest_meant c.args.which (transaction_of_node o.node) (state_of_trees t).pending o.is (sym met ∙ c.if-not-is_met.false) in
    sym (oldest_some (test_of c.args.which) (transaction_of_node o.node) (state_of_trees t).pending first)
