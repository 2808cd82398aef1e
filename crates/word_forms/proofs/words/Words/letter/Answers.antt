use Rattle.std.proofs.Common.{arith}
use Rattle.std.proofs.lemmas.Str.{lead_after_ascii}
use Rattle.word_forms.proofs.words.Words.letter.Goals as goal

pub range_from-requires : goal.range_from-requires
range_from-requires g c = λ above. (omega (arith, c.requires), lead_after_ascii c.args.self.now.letters.now 0 (rw c.as_bytes.ensures.value at c.as_bytes.ensures.utf8) (rw (c.in-Some.is, c.as_bytes.ensures.value) at c.letter.ensures.ascii))
