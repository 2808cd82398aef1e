use Rattle.std.proofs.Common.{rules, ◌+◌, ◌*◌, ◌%◌, length, sym, ap, ◌≡◌, ◌∙◌, arith}
use Rattle.std.proofs.lemmas.List.{length-take-le}
use Rattle.vsl_record.specs.Words.{words_in}
use Rattle.vsl_record.proofs.WordLemmas.{length-words_in}
use Rattle.ring_layout.proofs.LapLemmas.{in_lap}
use Rattle.log_ring.specs.declared.rule.ReaderView.{ReaderView}
use Rattle.log_ring.specs.inside.Reading.{unchecked_words}
use Rattle.log_ring.proofs.CopyLemmas.{copied_first, copied_more}
use Rattle.log_ring.proofs.ring.Ring.copy.Goals as goal

pub loop-word-init : goal.loop-word-init
loop-word-init g c =
    let room = c.requires.room in
    let some_word = c.requires.some in
    let long = length-words_in c.args.bytes.now in
    (search rules, copied_first c.args.head _ _ _ c.requires.reader.1 c.requires.copied c.write_word.ensures.words (omega arith), omega arith, omega arith, c.write_word.ensures.size)

pub load_more-next-requires-clause-at : goal.load_more-next-requires-clause-at
load_more-next-requires-clause-at g c =
    let before = c.loop-word.invariant.1 in
    let mine = c.requires.place in
    let place = ap (λ (r : ReaderView). r.place) before.reader in
    let words = ap (λ (r : ReaderView). length (unchecked_words r.unchecked)) before.reader ∙ length-take-le c.loop-word.word (words_in c.loop-word.bytes) before.long in
    let more = c.loop-word-test.true in
    let first = c.word_of-at.ensures in
    let there = in_lap c.args.place c.loop-word.word (8 * c.args.self.now.seg) (let room = c.requires.in_lap in omega arith) in
    let here : c.word_of-at.result + c.loop-word.word ≡ 32 + (c.args.place + c.loop-word.word) % (8 * c.args.self.now.seg) = omega arith in
    here ∙ sym (λ i. 32 + ((place ∙ sym mine) i + words i) % (8 * c.args.self.now.seg))

pub loop-word-preserved : goal.loop-word-preserved
loop-word-preserved g c =
    let before = c.loop-word.invariant in
    let room = c.requires.room in
    let more = c.loop-word-test.true in
    let behind = before.3 in
    let same = before.4 in
    let long = length-words_in c.loop-word.bytes in (
      search rules,
      copied_more c.args.head c.loop-word.word _ _ _ _ _ _ before.1 c.load_more-next.ensures.loaded c.write_word-in-loop-word.ensures.words behind (omega arith),
      omega arith,
      omega arith,
      c.write_word-in-loop-word.ensures.size ∙ same,
    )
