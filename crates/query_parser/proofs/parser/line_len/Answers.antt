use Rattle.std.proofs.Common.{ap, length, ◌∙◌, ◌≤◌, ℕ, sym, subst, Option}
use Rattle.std.specs.Option.{unwrap_or}
use Rattle.query_parser.proofs.LinesRead.{line_is, line_within}
use Rattle.query_parser.proofs.parser.line_len.Goals as goal

pub returns-clause-length : goal.returns-clause-length
returns-clause-length c = c.unwrap_or.ensures ∙ ap (λ (o : Option ℕ). unwrap_or o (length c.args.text.now)) c.line_feed.ensures ∙ line_is c.args.text.now

pub returns-clause-within : goal.returns-clause-within
returns-clause-within c = subst (λ (n : ℕ). n ≤ length c.args.text.now) (sym (c.unwrap_or.ensures ∙ ap (λ (o : Option ℕ). unwrap_or o (length c.args.text.now)) c.line_feed.ensures ∙ line_is c.args.text.now)) (line_within c.args.text.now)
