use Rattle.std.proofs.Common.{◌∙◌}
use Rattle.vslog.proofs.words.LogRowsRows.name.Goals as goal

pub returns : goal.returns
returns c = c.name_in.ensures ∙ c.word_rows.ensures c.args.word.now
