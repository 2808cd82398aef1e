use Rattle.std.proofs.Common.{arith}
use Rattle.vsl_words.proofs.WordLemmas.{length-words_in}
use Rattle.vsl_words.proofs.bytes.word_count.Goals as goal

pub returns : goal.returns
returns c = omega (arith, length-words_in c.args.bytes.now)
