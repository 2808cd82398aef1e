use Rattle.std.proofs.Common.{length, ◌∙◌, ap, arith}
use Rattle.std.proofs.lemmas.List.{take_all}
use Rattle.vsl_words.specs.Words.{word_bytes, words_in}
use Rattle.vsl_words.proofs.WordLemmas.{length-word_bytes, words_in_again}
use Rattle.vsl_words.proofs.bytes.bytes_of.Goals as goal

pub returns-clause-words : goal.returns-clause-words
returns-clause-words c =
    ap words_in (c.loop-word.invariant ∙ ap word_bytes (take_all c.loop-word.word-index c.args.words.now c.loop-word-test.false))
    ∙ words_in_again c.args.words.now (λ i. omega (arith, c.type_inv.words i))

pub returns-clause-whole : goal.returns-clause-whole
returns-clause-whole c =
    ap length (c.loop-word.invariant ∙ ap word_bytes (take_all c.loop-word.word-index c.args.words.now c.loop-word-test.false)) ∙ length-word_bytes c.args.words.now
