use Rattle.std.proofs.Common.{◌∙◌, ◌+◌, List, ℕ, length, drop, ap, arith, length-append}
use Rattle.std.specs.List.{flat_map}
use Rattle.vsl_record.specs.Words.{record_words}
use Rattle.vsl_record.proofs.WritingLemmas.{next_piece, in_first, behind_first}
use Rattle.vsl_record.proofs.writing.body_word.Goals as goal

pub word_at-requires-clause-inside : goal.word_at-requires-clause-inside
word_at-requires-clause-inside c = omega (arith, c.if-left-size.true, c.words-size.ensures.words c.args.vxid)

pub returns-then-left-size : goal.returns-then-left-size
returns-then-left-size c =
    let parts = next_piece (record_words c.args.vxid) c.args.records.now c.loop-i.i c.get-rec.result (rw c.len-i-end.ensures at c.loop-i-test.true) c.get-rec.ensures in
    c.word_at.ensures ∙ in_first (record_words c.args.vxid c.get-rec.result) _ _ c.loop-i.left parts (omega (arith, c.if-left-size.true, c.words-size.ensures.words c.args.vxid)) ∙ c.loop-i.invariant.same

pub loop-i-preserved : goal.loop-i-preserved
loop-i-preserved c =
    let f = record_words c.args.vxid in
    let others : List ℕ = flat_map f (drop (c.loop-i.i + 1) c.args.records.now) in
    let parts = next_piece f c.args.records.now c.loop-i.i c.get-rec.result (rw c.len-i-end.ensures at c.loop-i-test.true) c.get-rec.ensures in
    let size = c.words-size.ensures.words c.args.vxid in
    record {
      same = rw size (behind_first (f c.get-rec.result) others _ c.loop-i.left parts (omega (arith, c.if-left-size.false, size))) ∙ c.loop-i.invariant.same;
      inside = omega (arith, c.if-left-size.false, size, c.loop-i.invariant.inside, ap length parts, length-append (f c.get-rec.result) others);
    }
