use Rattle.std.proofs.Common.{ℕ, ◌≤◌, length, sym, subst}
use Rattle.query_grammar.specs.declared.lex.Lex.{Lex}
use Rattle.query_parser.proofs.Wholes.{along_within}
use Rattle.query_parser.proofs.token.lex_len.Goals as goal

pub returns-clause-within : goal.returns-clause-within
returns-clause-within c = subst (λ (x : ℕ × Lex). x.0 ≤ length c.args.text.now) (sym c.along-count.ensures) (along_within c.args.from c.args.text.now)
