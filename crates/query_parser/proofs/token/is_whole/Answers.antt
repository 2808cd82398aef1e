use Rattle.std.proofs.Common.{length, ◌∙◌}
use Rattle.query_parser.proofs.Wholes.{differ, whole_then, whole_else}
use Rattle.query_parser.proofs.token.is_whole.Goals as goal

pub returns-then-count-word : goal.returns-then-count-word
returns-then-count-word c = c.is_last_state.ensures ∙ whole_then c.along-count.result c.args.from c.args.word.now c.along-count.ensures c.if-count-word.true

pub returns-else-count-word : goal.returns-else-count-word
returns-else-count-word c = differ c.along-count.result.0 (length c.args.word.now) c.if-count-word.false ∙ whole_else c.along-count.result c.args.from c.args.word.now c.along-count.ensures c.if-count-word.false
