use Rattle.std.proofs.Common.{[], ◌∷◌, ◌++◌, refl, ap, ◌∙◌}
use Rattle.txn_rows.specs.Grouping.{raw_group}
use Rattle.query_eval.specs.declared.chosen.Chosen.{Chosen}
use Rattle.txn_groups.proofs.TreesLemmas.{chosen_is}
use Rattle.txn_groups.proofs.trees.TreesStore.hand_alone.Goals as goal

pub returns-clause-ok : goal.returns-clause-ok
returns-clause-ok c = λ queries trees. record {
  kept = record { held = trees.held; low = trees.low; asks = c.holds.ensures.same ∙ trees.asks; marked = trees.marked; unmarked = trees.unmarked };
  state = refl;
  groups = c.in_ok-push.ensures.items ∙ ap (λ (left : Chosen). c.args.out.now.items ++ left ∷ []) (chosen_is queries _ c.in_ok-group.group (raw_group c.args.vxid c.args.rec.now) c.in_ok-holds.holds trees.asks c.in_ok-group.ensures c.in_ok-holds.ensures.answers);
}
