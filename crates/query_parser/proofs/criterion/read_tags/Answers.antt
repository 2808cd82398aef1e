use Rattle.query_parser.proofs.CriterionNames.{names_utf8}
use Rattle.query_parser.proofs.criterion.read_tags.Goals as goal

pub unreachable-requires : goal.unreachable-requires
unreachable-requires c = c.in_default.ensures.cases.0 (names_utf8 c.args.names.now c.requires.named)
