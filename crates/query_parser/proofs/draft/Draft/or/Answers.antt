use Rattle.std.proofs.Common.{List, subst}
use Rattle.std.specs.Prelude.{IfOk}
use Rattle.query_grammar.specs.declared.mode.Waiting.{Waiting}
use Rattle.query_grammar.specs.declared.mode.Waiting.TheVariants as waits
use Rattle.query_grammar.specs.Moves.{loosened, waits_for}
use Rattle.query_parser.specs.inside.Stages.{at_spot}
use Rattle.query_parser.specs.inside.Follows.{Follows}
use Rattle.query_parser.proofs.Follow.{loosen_both}
use Rattle.query_parser.proofs.draft.Draft.or.Goals as goal

pub returns-clause-spot : goal.returns-clause-spot
returns-clause-spot c = λ caseless written meant.
    let h = loosen_both caseless c.args.self.waiting written c.args.self.steps.items (c.in_ok-waiting.waiting, c.in_ok-waiting.steps.items) meant c.in_ok-waiting.ensures in
    subst (λ (ws : List Waiting). IfOk c.wait.result (λ d. Follows caseless (at_spot (waits_for waits.Or (ws, (loosened c.args.self.waiting written).1)) c.args.self.place) d)) h.waiting (c.wait.ensures.spot caseless (loosened c.args.self.waiting written).1 h.steps)
