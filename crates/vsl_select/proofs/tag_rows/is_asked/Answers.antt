use Rattle.std.proofs.Common.{sym, ◌∙◌, ◌&&◌}
use Rattle.std.proofs.lemmas.Bool.{and_from, and_left, and_right}
use Rattle.vsl_select.specs.Shown.{names_tag}
use Rattle.vsl_select.proofs.RuleLemmas.{any_here, none_so, read_here}
use Rattle.vsl_select.proofs.tag_rows.is_asked.Goals as goal
use Rattle.vsl_select.proofs.tag_rows.is_asked.Goals.{else-rule-via-then-rule+else-names, else-rule-via-else-rule}

pub returns-then-names : goal.returns-then-names
returns-then-names c = λ caseless all.
    let read = read_here caseless c.args.rules.now c.loop-rule.rule-index c.rule-item.result all c.loop-rule-test.true c.rule-item.is in
    sym (any_here (λ r. r.regex && names_tag r c.args.tag) c.args.rules.now c.loop-rule.rule-index c.rule-item.result c.loop-rule-test.true c.rule-item.is (and_from _ _ c.if-rule.true (sym (c.names.ensures caseless read) ∙ c.if-names.true)))

pub loop-rule-preserved : goal.loop-rule-preserved
loop-rule-preserved c = λ caseless all.
    let read = read_here caseless c.args.rules.now c.loop-rule.rule-index c.rule-item.result all c.loop-rule-test.true c.rule-item.is in
    none_so (λ r. r.regex && names_tag r c.args.tag) c.args.rules.now c.loop-rule.rule-index c.rule-item.result c.loop-rule-test.true c.rule-item.is (c.loop-rule.invariant caseless all)
    (elim c.else-rule.branch [
      | else-rule-via-then-rule+else-names w ↦ and_right _ _ (sym (w.names.ensures caseless read) ∙ w.if-names.false)
      | else-rule-via-else-rule w ↦ and_left _ _ w.if-rule.false
    ])
