use Rattle.std.proofs.lemmas.Result.{err_from_is_err_and}
use Rattle.vsl_select.proofs.RuleLemmas.{are_read_more, refused_here}
use Rattle.vsl_select.proofs.selection.read_rules.Goals as goal

pub returns-in_err-rule-clause-refused : goal.returns-in_err-rule-clause-refused
returns-in_err-rule-clause-refused c =
    let p = err_from_is_err_and c.from_residual.result c.from_residual.ensures.1 in
    rw (p.1, p.2) (λ other. refused_here _ _ _ _ _ c.in-Some.text _ (rw (c.in-Some.ensures.steps.0) at c.loop-text.invariant) (c.in_err-rule.ensures.refused other))

pub loop-text-preserved : goal.loop-text-preserved
loop-text-preserved c =
    rw (c.push.ensures.items, c.if-is_err.ensures.negation) (are_read_more _ _ _ _ _ c.in_ok-rule.rule c.in-Some.text (rw (c.in-Some.ensures.steps.0) at c.loop-text.invariant)
    c.in_ok-rule.ensures.text c.in_ok-rule.ensures.read c.in_ok-rule.ensures.good)
