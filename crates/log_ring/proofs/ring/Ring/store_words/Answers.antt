use Rattle.std.proofs.Common.{rules, length, sym, ◌∙◌, arith}
use Rattle.vsl_record.specs.Words.{unit_words}
use Rattle.log_ring.proofs.WalkLemmas.{next_is, some_left}
use Rattle.log_ring.proofs.WordLemmas.{put_index}
use Rattle.log_ring.proofs.ring.Ring.store_words.Goals as goal

pub unreachable-requires : goal.unreachable-requires
unreachable-requires g c =
    let more = c.loop-place-test.true in
    let upto = c.requires.placed.1.tail in
    let from = c.requires.placed.1.start in
    some_left (unit_words c.args.put.now.unit.now) c.loop-place.place (omega arith) (sym c.loop-place.invariant.4 ∙ c.in_default.ensures.none)

pub store_word-requires-clause-word : goal.store_word-requires-clause-word
store_word-requires-clause-word g c = (next_is (unit_words c.args.put.now.unit.now) _ c.loop-place.place _ (sym c.loop-place.invariant.4 ∙ c.in-Some.ensures.word)).0

pub store_word-requires-clause-at : goal.store_word-requires-clause-at
store_word-requires-clause-at g c =
    let seg = c.args.self.now.seg in
    let more = c.loop-place-test.true in
    let upto = c.requires.placed.1.tail in
    let from = c.requires.placed.1.start in
    let fits = c.requires.placed.2 in
    let first = c.word_of-at.ensures in
    let there = put_index seg c.args.put.now.tail (length (unit_words c.args.put.now.unit.now)) c.loop-place.place c.args.put.now.placed.start (omega arith) fits from (omega arith) in
    omega arith

pub loop-place-preserved : goal.loop-place-preserved
loop-place-preserved g c =
    let before = c.loop-place.invariant in
    let more = c.loop-place-test.true in
    let upto = c.requires.placed.1.tail in
    let from = c.requires.placed.1.start in
    let low = before.2 in
    (search rules, search rules, omega arith, omega arith, (next_is (unit_words c.args.put.now.unit.now) _ c.loop-place.place _ (sym before.4 ∙ c.in-Some.ensures.word)).1)
