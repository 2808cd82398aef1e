use Rattle.std.proofs.Common.{rules, refl, arith}
use Rattle.vsl_record.proofs.WordLemmas.{length-words_in}
use Rattle.ring_plain.proofs.RingLemmas.{new_log}
use Rattle.ring_plain.proofs.ring.PlainRing.new.Goals as goal

pub returns-clause-empty : goal.returns-clause-empty
returns-clause-empty c =
    let bytes = c.in_ok-empty_words.ensures in
    new_log _ (search rules) refl refl (omega (arith, length-words_in c.in_ok-empty_words.field-0.items, bytes.size)) refl refl refl refl refl refl bytes.mark
