use Rattle.std.proofs.Common.{◌≡◌, length, sym, ap, subst, ◌∙◌, arith}
use Rattle.std.proofs.lemmas.Bool.{both_ways}
use Rattle.std.specs.List.{list_any}
use Rattle.vsl_select.specs.Showing.{Showing}
use Rattle.vsl_select.specs.inside.Rows.{AreRulesOf}
use Rattle.vsl_select.proofs.RowLemmas.{asked_shown, none_named, of_not_false, of_not_true, unasked_shown}
use Rattle.vsl_select.proofs.ViewerLemmas.{put_back, rules_in}
use Rattle.vsl_select.proofs.viewer.Viewer.shows.Goals as goal

pub returns-then-not-row-clause-shown : goal.returns-then-not-row-clause-shown
returns-then-not-row-clause-shown c = unasked_shown _ _ c.args.rec.now _ c.row-row.result c.self.view_is c.tag.ensures c.row-row.ensures (of_not_true _ c.if-not-row.true)

-- the rules are put back
pub invariant_of-self : goal.invariant_of-self
invariant_of-self c =
    let same = c.first_match.ensures.rules ∙ ap rules_in c.deref_mut.ensures.value in
    let as_many : c.self.inside.rules.len ≡ length c.self.inside.rules.items = omega (arith, c.deref_mut.ensures.len, ap length c.deref_mut.ensures.value) in
    subst (AreRulesOf c.self.inside.selection.now) (sym (put_back c.self.inside.rules.len c.self.inside.rules.items c.first_match.new.all as_many same)) c.self.invariant

-- a record is asked only where a rule has a pattern
pub returns-in_err-said-clause-answered : goal.returns-in_err-said-clause-answered
returns-in_err-said-clause-answered c = λ none.
    let rules_are = ap (λ (s : Showing). s.rules) c.self.view_is in
    absurd (both_ways _ (c.row-row.ensures.asked ∙ none_named c.tag.result c.self.inside.selection.now.rules (ap (list_any (λ r. r.regex)) rules_are ∙ none)) (of_not_false _ c.if-not-row.false))

pub invariant_of-self-2 : goal.invariant_of-self-2
invariant_of-self-2 c =
    let same = c.first_match.ensures.rules ∙ ap rules_in c.deref_mut.ensures.value in
    let as_many : c.self.inside.rules.len ≡ length c.self.inside.rules.items = omega (arith, c.deref_mut.ensures.len, ap length c.deref_mut.ensures.value) in
    subst (AreRulesOf c.self.inside.selection.now) (sym (put_back c.self.inside.rules.len c.self.inside.rules.items c.first_match.new.all as_many same)) c.self.invariant

pub returns-clause-shown : goal.returns-clause-shown
returns-clause-shown c =
    asked_shown _ _ c.args.rec.now _ c.row-row.result (rules_in c.self.inside.rules.items) c.in_ok-said.said _ c.self.view_is c.self.invariant c.tag.ensures c.row-row.ensures
    (rw c.deref_mut.ensures.value at c.in_ok-said.ensures.said) c.unwrap_or.ensures
