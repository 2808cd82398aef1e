use Rattle.std.proofs.Common.{◌*◌, length, ap, ◌∙◌, arith}
use Rattle.std.proofs.lemmas.List.{length-take-le}
use Rattle.vsl_words.specs.Words.{words_in}
use Rattle.vsl_words.proofs.WordLemmas.{length-words_in, words_in-take}
use Rattle.vsl_words.proofs.bytes.keep_words.Goals as goal

pub split_at-requires : goal.split_at-requires
split_at-requires c = omega (arith, c.requires.enough, length-words_in c.args.bytes.now)

pub returns-clause-words : goal.returns-clause-words
returns-clause-words c = ap words_in c.split_at.ensures.front ∙ words_in-take c.args.count c.args.bytes.now

pub returns-clause-whole : goal.returns-clause-whole
returns-clause-whole c =
    omega (arith, ap length c.split_at.ensures.front, length-take-le (4 * c.args.count) c.args.bytes.now (omega (arith, c.requires.enough, length-words_in c.args.bytes.now)))
