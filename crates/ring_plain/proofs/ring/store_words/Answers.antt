use Rattle.std.proofs.Common.{◌≡◌, ℕ, ◌+◌, ◌*◌, ◌%◌, ◌<◌, ◌≤◌, length, sym, ap, ◌∙◌, subst, arith}
use Rattle.vsl_record.specs.Words.{unit_words}
use Rattle.ring_layout.specs.Places.{start_at}
use Rattle.ring_layout.proofs.LapLemmas.{in_stretch}
use Rattle.ring_plain.proofs.ring.store_words.Goals as goal

-- a unit and the mark behind it lie in the ring's words
within : (seg t w start first : ℕ) → 0 < seg → w ≤ seg → start ≡ start_at seg t w → first ≡ start % (8 * seg) → first + w < 8 * seg
within seg t w start first pos fits at is = subst (λ (i : ℕ). i + w < 8 * seg) (sym (is ∙ ap (λ (s : ℕ). s % (8 * seg)) at)) (in_stretch seg t w pos fits)

pub write_unit-requires-clause-room : goal.write_unit-requires-clause-room
write_unit-requires-clause-room c =
    let a = within c.args.shape c.args.tail (length (unit_words c.args.unit.now)) c.args.placed.start c.word_of-first.result (omega arith) c.requires.fits c.requires.start c.word_of-first.ensures in
    omega arith

pub write_word-requires-2 : goal.write_word-requires-2
write_word-requires-2 c =
    let a = within c.args.shape c.args.tail (length (unit_words c.args.unit.now)) c.args.placed.start c.word_of-first.result (omega arith) c.requires.fits c.requires.start c.word_of-first.ensures in
    omega arith
