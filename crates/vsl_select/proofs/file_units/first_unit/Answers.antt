use Rattle.std.proofs.Common.{rules, arith}
use Rattle.vsl_select.proofs.FileUnitLemmas.{record_words_short, is_begun, is_begun_more, ends_at_size}
use Rattle.vsl_select.proofs.file_units.first_unit.Goals as goal

pub overflow_add-words : goal.overflow_add-words
overflow_add-words c = omega (arith, c.words-words.ensures.words 0, record_words_short 0 c.get.result c.words-words.ensures.payload)

pub overflow_add-size : goal.overflow_add-size
overflow_add-size c = omega (arith, c.loop-at.invariant.few, c.words.ensures.words 0, record_words_short 0 c.get-rec.result c.words.ensures.payload)

pub loop-at-init : goal.loop-at-init
loop-at-init c = is_begun _ _ c.get.result _ c.requires c.get.ensures c.first_mark-mark.ensures c.words-words.ensures.words c.words-words.ensures.payload

pub loop-at-preserved : goal.loop-at-preserved
loop-at-preserved c = is_begun_more _ _ _ _ _ c.get-rec.result c.loop-at.invariant (rw c.len-at-end.ensures at c.loop-at-test.true) c.get-rec.ensures (search (rules, c.ne.ensures, c.if-ne.false)) c.words.ensures.words c.if-size-gt-MOST_WORDS.false

pub returns-then-size-gt-MOST_WORDS-clause-units : goal.returns-then-size-gt-MOST_WORDS-clause-units
returns-then-size-gt-MOST_WORDS-clause-units c = ends_at_size _ _ _ _ _ c.get-rec.result c.loop-at.invariant (rw c.len-at-end.ensures at c.loop-at-test.true) c.get-rec.ensures c.words.ensures.words c.if-size-gt-MOST_WORDS.true
