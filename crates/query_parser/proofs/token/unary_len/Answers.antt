use Rattle.std.proofs.Common.{arith}
use Rattle.query_parser.proofs.Wholes.{parenthesis_long, unary_long, empty_long}
use Rattle.query_parser.proofs.token.unary_len.Goals as goal

pub returns-then-byte-eq40-clause-munches : goal.returns-then-byte-eq40-clause-munches
returns-then-byte-eq40-clause-munches c = λ k. parenthesis_long c.args.text.now k (omega arith) c.if-byte-eq40.true

pub returns-in-empty-clause-munches : goal.returns-in-empty-clause-munches
returns-in-empty-clause-munches c = λ k. empty_long c.args.text.now k (omega arith)

pub returns-else-byte-eq40-clause-munches : goal.returns-else-byte-eq40-clause-munches
returns-else-byte-eq40-clause-munches c = λ k. unary_long c.args.text.now k c.lex_len.result (omega arith) c.if-byte-eq40.false c.lex_len.ensures.length
