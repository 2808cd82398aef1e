use Rattle.std.proofs.Common.{sym, ◌∙◌, ◌&&◌, not}
use Rattle.std.proofs.lemmas.Bool.{and_from, and_left, and_right, not_from_false, not_from_true}
use Rattle.vsl_select.specs.Shown.{names_tag}
use Rattle.vsl_select.proofs.RuleLemmas.{last_before, last_here, read_here}
use Rattle.vsl_select.proofs.tag_rows.last_named.Goals as goal
use Rattle.vsl_select.proofs.tag_rows.last_named.Goals.{then-not-rule+then-names, else-not-rule, else-not-rule-via-then-not-rule+else-names, else-not-rule-via-else-not-rule}

pub loop-rule-preserved : goal.loop-rule-preserved
loop-rule-preserved c = λ caseless all.
    let read = read_here caseless c.args.rules.now c.loop-rule.rule-index c.rule-item.result all c.loop-rule-test.true c.rule-item.is in
    elim c.if-not-rule.branch [
      | then-not-rule+then-names w ↦
          last_here (λ r. not r.regex && names_tag r c.args.tag) c.args.rules.now c.loop-rule.rule-index c.rule-item.result c.loop-rule-test.true c.rule-item.is _
          (and_from _ _ (not_from_false _ w.if-not-rule.true) (sym (w.names.ensures caseless read) ∙ w.if-names.true)) w.said-is
      | else-not-rule w ↦ last_before (λ r. not r.regex && names_tag r c.args.tag) c.args.rules.now c.loop-rule.rule-index c.rule-item.result c.loop-rule-test.true c.rule-item.is _ _ (c.loop-rule.invariant caseless all) (elim w.else-not-rule.branch [
        | else-not-rule-via-then-not-rule+else-names v ↦ and_right _ _ (sym (v.names.ensures caseless read) ∙ v.if-names.false)
        | else-not-rule-via-else-not-rule v ↦ and_left _ _ (not_from_true _ v.if-not-rule.false)
      ]) w.said-is
    ]
