use Rattle.std.proofs.Common.{◌++◌, ◌∷◌, [], refl, ap, ◌∙◌}
use Rattle.query_grammar.specs.Moves.{tightened}
use Rattle.query_grammar.specs.declared.step.StepOver.TheVariants as kinds
use Rattle.query_parser.proofs.Follow.{meant_then, tighten_both}
use Rattle.query_parser.proofs.draft.Draft.tested.Goals as goal

pub returns-clause-spot : goal.returns-clause-spot
returns-clause-spot c = λ caseless parts written meant is.
    let h = tighten_both caseless c.args.self.waiting (written ++ kinds.Test parts ∷ []) (c.args.self.steps.items ++ kinds.Test c.args.test ∷ []) (c.in_ok-waiting.waiting, c.in_ok-waiting.steps.items)
    (meant_then caseless written c.args.self.steps.items (kinds.Test parts) (kinds.Test c.args.test) meant is) (c.in_ok-waiting.ensures ∙ ap (tightened c.args.self.waiting) c.in_ok-push.ensures.items) in
    record { written = (tightened c.args.self.waiting (written ++ kinds.Test parts ∷ [])).1; meant = h.steps; same = rw h.waiting refl }
