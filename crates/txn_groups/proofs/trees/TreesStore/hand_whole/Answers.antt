use Rattle.std.proofs.Common.{[], ◌∷◌, ◌++◌, map, ap, sym, ◌∙◌}
use Rattle.txn_rows.specs.declared.group.Grouping.TheVariants.{Vxid}
use Rattle.txn_rows.specs.Grouping.{Leaving, reported}
use Rattle.txn_rows.specs.Whole.{whole_group}
use Rattle.query_eval.specs.declared.chosen.Chosen.{Chosen}
use Rattle.txn_groups.specs.Groups.{chosen}
use Rattle.txn_groups.specs.inside.Trees.{state_of_trees}
use Rattle.txn_groups.proofs.TreesLemmas.{chosen_is}
use Rattle.txn_groups.proofs.WholeLemmas.{held_higher, low_higher, whole_leaves}
use Rattle.txn_groups.proofs.trees.TreesStore.hand_whole.Goals as goal

pub returns-clause-ok : goal.returns-clause-ok
returns-clause-ok c = λ queries trees.
    let t = c.args.self.now in
    let out = c.args.out.now.items in
    let is = whole_leaves t.pending c.args.vxid c.args.records.now trees.held in
    record {
      kept = record { held = held_higher t.pending trees.held; low = low_higher t.low (state_of_trees t) trees.low; asks = c.holds.ensures.same ∙ trees.asks; marked = trees.marked; unmarked = trees.unmarked };
      state = sym (ap (λ (r : Leaving). r.state) is);
      groups =
          c.in_ok-push.ensures.items ∙ ap (λ (left : Chosen). out ++ left ∷ []) (chosen_is queries _ c.in_ok-group.group (whole_group c.args.vxid c.args.records.now) c.in_ok-holds.holds trees.asks c.in_ok-group.ensures c.in_ok-holds.ensures.answers)
          ∙ ap (λ (r : Leaving). out ++ map (chosen queries) (reported Vxid r.groups)) (sym is);
    }
