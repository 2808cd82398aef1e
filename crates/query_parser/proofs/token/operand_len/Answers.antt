use Rattle.query_parser.proofs.Wholes.{value_long}
use Rattle.query_parser.proofs.token.operand_len.Goals as goal

pub returns-clause-munches : goal.returns-clause-munches
returns-clause-munches c = λ k. value_long c.args.text.now k c.lex_len.result c.lex_len.ensures.length
