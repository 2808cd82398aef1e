use Rattle.std.proofs.Common.{◌∙◌}
use Rattle.ring_layout.proofs.BytesLemmas.{word_read}
use Rattle.ring_layout.proofs.words.read_word.Goals as goal

pub returns : goal.returns
returns c = c.from_le_bytes.ensures ∙ word_read c.args.bytes.now c.split_at.result.1.now c.args.place c.split_at.ensures.back c.in-len4-up.len_at_least
