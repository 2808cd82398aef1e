use Rattle.std.proofs.Common.{◌<◌, ◌&&◌, List, Some, length, get_or, sym, ap, ◌∙◌, arith}
use Rattle.std.proofs.lemmas.List.{get_or-set_same, take_all}
use Rattle.vsl_select.specs.declared.rule.Rule.{Rule}
use Rattle.vsl_select.specs.declared.viewer.AskedRule.{AskedRule}
use Rattle.vsl_select.specs.Shown.{first_says, is_matched}
use Rattle.vsl_select.proofs.RuleLemmas.{none_more, read_here, said_here, texts_of}
use Rattle.vsl_select.proofs.ViewerLemmas.{rule_is, rule_within, rules_in, rules_past, same_rules}
use Rattle.vsl_select.proofs.viewer.first_match.Goals as goal

pub returns-in_err-fits-clause-rules : goal.returns-in_err-fits-clause-rules
returns-in_err-fits-clause-rules c = same_rules _ _ c.loop-i.i c.index-all-i.result _ c.loop-i.invariant.rules c.fits.ensures.rule

pub returns-then-branch-clause-rules : goal.returns-then-branch-clause-rules
returns-then-branch-clause-rules c = same_rules _ _ c.loop-i.i c.index-all-i.result _ c.loop-i.invariant.rules c.fits.ensures.rule

-- the rule at the index says it
pub returns-then-branch-clause-said : goal.returns-then-branch-clause-said
returns-then-branch-clause-said c = λ caseless read.
    let rule : Rule = (get_or c.loop-i.all c.loop-i.i c.index-all-i.result).rule.now in
    let within : c.loop-i.i < length c.loop-i.all = omega arith in
    let inside = rule_within c.loop-i.all c.args.all.now c.loop-i.i c.loop-i.invariant.rules within in
    let is = rule_is c.loop-i.all c.args.all.now c.loop-i.i c.index-all-i.result c.loop-i.invariant.rules within in
    let so = c.in_ok-fits.ensures.fits caseless (read_here caseless (rules_in c.args.all.now) c.loop-i.i rule read inside is) in
    ap (λ (a : AskedRule). Some a.rule.now.text.include) (get_or-set_same c.loop-i.all c.loop-i.i c.fits.new.self c.index-all-i-then-branch.result within)
    ∙ ap (λ (r : Rule). Some r.text.include) c.fits.ensures.rule
    ∙ said_here (λ r. r.regex && is_matched caseless c.args.rec.now r) (rules_in c.args.all.now) c.loop-i.i rule inside is (c.loop-i.invariant.none caseless read) (sym so ∙ c.if-branch.true)

-- the rule at the index says nothing
pub loop-i-preserved : goal.loop-i-preserved
loop-i-preserved c =
    let rule : Rule = (get_or c.loop-i.all c.loop-i.i c.index-all-i.result).rule.now in
    let within : c.loop-i.i < length c.loop-i.all = omega arith in
    let inside = rule_within c.loop-i.all c.args.all.now c.loop-i.i c.loop-i.invariant.rules within in
    let is = rule_is c.loop-i.all c.args.all.now c.loop-i.i c.index-all-i.result c.loop-i.invariant.rules within in record {
      rules = same_rules _ _ c.loop-i.i c.index-all-i.result _ c.loop-i.invariant.rules c.fits.ensures.rule;
      none = λ caseless read.
          let so = c.in_ok-fits.ensures.fits caseless (read_here caseless (rules_in c.args.all.now) c.loop-i.i rule read inside is) in
          none_more (λ r. r.regex && is_matched caseless c.args.rec.now r) (rules_in c.args.all.now) c.loop-i.i rule inside is (c.loop-i.invariant.none caseless read) (sym so ∙ c.if-branch.false);
    }

-- no rule is left
pub returns-clause-said : goal.returns-clause-said
returns-clause-said c = λ caseless read.
    let past = rules_past c.loop-i.all c.args.all.now c.loop-i.i c.loop-i.invariant.rules (omega arith) in
    sym (c.loop-i.invariant.none caseless read) ∙ ap (λ (rules : List Rule). first_says (λ r. r.regex && is_matched caseless c.args.rec.now r) (texts_of rules)) (take_all c.loop-i.i (rules_in c.args.all.now) past)
