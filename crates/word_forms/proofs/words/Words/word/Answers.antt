use Rattle.std.proofs.Common.{arith, refl}
use Rattle.std.specs.String.{string_bytes}
use Rattle.word_forms.proofs.WordLemmas.{took}
use Rattle.word_forms.proofs.words.Words.word.Goals as goal

pub returns : goal.returns
returns g c = record {
  word_is = took string_bytes c.args.self.now.words.now c.args.self.now.next c.index-self-self.result c.as_str-word.result.now (omega (arith, c.if-self.false)) c.as_str-word.ensures.value;
  rows = refl;
  next = refl;
  place = refl;
  letters = refl;
}
