use Rattle.std.proofs.Common.{sym, ◌∙◌}
use Rattle.query_parser.proofs.LinesRead.{first_adds, more_adds}
use Rattle.query_parser.proofs.parser.add_line.Goals as goal

pub returns-in-None : goal.returns-in-None
returns-in-None c = λ before meant.
    first_adds c.args.caseless c.args.from before c.args.line.now c.in_ok-more.more (sym c.is_passed_over.ensures ∙ c.if-is_passed_over.false) (rw c.in-None.is at meant) c.in_ok-more.ensures

pub returns-in_ok-joined-in-Some : goal.returns-in_ok-joined-in-Some
returns-in_ok-joined-in-Some c = λ before meant.
    more_adds c.args.caseless c.args.from before c.args.line.now c.in-Some.earlier c.in_ok-joined-in-Some.field-0 c.in_ok-more.more.items (sym c.is_passed_over.ensures ∙ c.if-is_passed_over.false) (rw c.in-Some.is at meant) c.in_ok-more.ensures c.in_ok-joined-in-Some.ensures
