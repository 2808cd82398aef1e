use Rattle.std.proofs.Common.{ap, ◌∙◌}
use Rattle.std.specs.List.{count_by}
use Rattle.query_grammar.specs.Moves.{is_open, open_count}
use Rattle.query_parser.proofs.Stacks.{count_is}
use Rattle.query_parser.proofs.stack.Stack.count_open.Goals as goal

pub returns : goal.returns
returns c = c.count_open_marks.ensures ∙ ap (count_by is_open) c.deref.ensures.value ∙ count_is c.self.inside.marks.items ∙ ap open_count c.self.view_is
