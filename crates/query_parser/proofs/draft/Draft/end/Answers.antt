use Rattle.std.proofs.Common.{sym, ◌∙◌}
use Rattle.query_parser.proofs.Follow.{loosen_both}
use Rattle.query_parser.proofs.Moves.{end_refused, end_read}
use Rattle.query_parser.proofs.draft.Draft.end.Goals as goal

pub returns-in-Some : goal.returns-in-Some
returns-in-Some c = λ caseless written meant.
    let h = loosen_both caseless c.args.self.waiting written c.args.self.steps.items (c.in_ok-waiting.waiting, c.in_ok-waiting.steps.items) meant c.in_ok-waiting.ensures in
    end_refused caseless c.args.at c.args.self written c.in-Some.field-0 _ c.requires.stage (sym c.in-Some.ensures ∙ h.waiting)

pub returns : goal.returns
returns c = λ caseless written meant.
    let h = loosen_both caseless c.args.self.waiting written c.args.self.steps.items (c.in_ok-waiting.waiting, c.in_ok-waiting.steps.items) meant c.in_ok-waiting.ensures in
    end_read caseless c.args.at c.args.self written c.in_ok-waiting.steps.items c.requires.stage (sym c.in_default.ensures.0 ∙ h.waiting) h.steps
