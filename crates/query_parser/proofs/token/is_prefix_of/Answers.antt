use Rattle.std.proofs.Common.{◌∙◌}
use Rattle.query_grammar.proofs.Prefixes.{prefix_is}
use Rattle.query_parser.proofs.token.is_prefix_of.Goals as goal

pub returns : goal.returns
returns c = c.starts_with.ensures.value ∙ prefix_is c.args.prefix.now c.args.text.now
