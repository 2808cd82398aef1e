use Rattle.std.proofs.Common.{refl, sym, ◌∙◌}
use Rattle.query_grammar.specs.Moves.{loosened}
use Rattle.query_parser.proofs.Follow.{loosen_both, tighten_both}
use Rattle.query_parser.proofs.Moves.{close_refused, close_taken}
use Rattle.query_parser.proofs.draft.Draft.close.Goals as goal

pub returns-in-None-clause-spot : goal.returns-in-None-clause-spot
returns-in-None-clause-spot c = λ caseless written word meant.
    let h = loosen_both caseless c.args.self.waiting written c.args.self.steps.items (c.in_ok-waiting.waiting, c.in_ok-waiting.steps.items) meant c.in_ok-waiting.ensures in
    close_refused caseless c.args.end c.args.self written word c.requires.stage (sym c.in-None.ensures.0 ∙ h.waiting)

pub returns-clause-spot : goal.returns-clause-spot
returns-clause-spot c = λ caseless written word meant.
    let h = loosen_both caseless c.args.self.waiting written c.args.self.steps.items (c.in_ok-waiting.waiting, c.in_ok-waiting.steps.items) meant c.in_ok-waiting.ensures in
    let t = tighten_both caseless c.pop.new.self (loosened c.args.self.waiting written).1 c.in_ok-waiting.steps.items (c.in_ok-waiting-2.waiting, c.in_ok-waiting-2.steps.items) h.steps c.in_ok-waiting-2.ensures in
    close_taken caseless c.args.end c.args.self _ written word c.in_default.field-0 c.pop.new.self c.requires.stage (sym c.in_default.ensures ∙ h.waiting) refl refl t
