use Rattle.std.proofs.Common.{sym, ap, ◌∙◌}
use Rattle.serde_json.specs.View.{members_view}
use Rattle.vsl_stat.proofs.SelectLemmas.{put_selected, put_hidden}
use Rattle.vsl_stat.proofs.object.counters_value.Goals.{then-is_shown+in_ok-counter+in_ok-put, else-is_shown}
use Rattle.vsl_stat.proofs.object.counters_value.Goals as goal

pub loop-which-preserved : goal.loop-which-preserved
loop-which-preserved c =
    elim c.if-is_shown.branch [
      | then-is_shown+in_ok-counter+in_ok-put w ↦
          put_selected c.args.values.now c.args.globs.now c.loop-which.which w.get.result _ _ (members_view c.loop-which.counters.entries) _ _ c.loop-which-test.true (sym c.is_shown.ensures ∙ w.if-is_shown.true) w.get.ensures w.name_of.ensures w.in_ok-counter.ensures (ap (λ m. members_view m.entries) w.counters-is ∙ w.in_ok-put.ensures.ok) c.loop-which.invariant
      | else-is_shown w ↦
          put_hidden c.args.values.now c.args.globs.now c.loop-which.which (members_view c.loop-which.counters.entries) _ _ c.loop-which-test.true (sym c.is_shown.ensures ∙ w.if-is_shown.false) (ap (λ m. members_view m.entries) w.counters-is) c.loop-which.invariant
    ]
