use Rattle.std.proofs.Common.{ap, ◌∙◌}
use Rattle.std.specs.List.{list_any}
use Rattle.query_grammar.specs.Moves.{is_mark, can_close}
use Rattle.query_parser.proofs.Stacks.{close_is}
use Rattle.query_parser.proofs.stack.Stack.can_close.Goals as goal

pub returns : goal.returns
returns c = c.has_parenthesis.ensures ∙ ap (list_any is_mark) c.deref.ensures.value ∙ close_is c.self.inside.marks.items ∙ ap can_close c.self.view_is
