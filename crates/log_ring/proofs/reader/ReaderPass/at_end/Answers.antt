use Rattle.std.proofs.Common.{◌≡◌, ◌/◌, refl, rules, sym, ap, ◌∙◌, subst, arith}
use Rattle.ring_layout.specs.declared.steps.Step.TheVariants.{NotYet, Ended, Lost}
use Rattle.std.specs.Prelude.{take}
use Rattle.vsl_record.specs.Words.{words_in}
use Rattle.log_ring.specs.Readers.{ReaderState, IsAnswer}
use Rattle.log_ring.specs.inside.Steps.{HasChecked, reader_seen}
use Rattle.log_ring.specs.inside.Reading.{reader_of, FindsEnd}
use Rattle.log_ring.proofs.AnswerLemmas.{far_answer, ended_answer, not_yet_answer, end_checked}
use Rattle.log_ring.proofs.reader.ReaderPass.at_end.Goals as goal

pub returns-then-at-seen-clause-answer : goal.returns-then-at-seen-clause-answer
returns-then-at-seen-clause-answer g c =
    let words = words_in (take c.self.inside.used c.self.inside.bytes.items) in
    let old : ReaderState = reader_seen c.self.inside.seat.table_id c.self.inside.seat.me.0 words c.self.inside.taken in
    let new : ReaderState = reader_seen c.check_end-seen.new.seat.table_id c.check_end-seen.new.seat.me.0 words c.self.inside.taken in
    let key = c.self.inside.seat.me.0.ring in
    let x = c.check_end-seen.result in
    let seg = c.ring.invariant.1 ∙ (ap (λ z. z.seg) c.ring.view_is ∙ (sym (ap (λ z. z.seg) c.requires.ours) ∙ sym (ap (λ z. z.ring.seg) c.self.view_is))) in
    let at : c.segment_of-at.result ≡ (reader_of c.self.inside.seat.me.0).place / c.self.inside.seat.me.0.ring.seg = c.segment_of-at.ensures ∙ (λ i. c.self.invariant.1 i / seg i) in
    subst (λ (o : ReaderState). IsAnswer o (Lost c.segment_of-at.result c.check_end-seen.result) new) c.self.view_is (far_answer FindsEnd key x c.segment_of-at.result old new c.check_end-seen.ensures.checked.1 at (search rules))

pub returns-then-finished_seen-self-clause-answer : goal.returns-then-finished_seen-self-clause-answer
returns-then-finished_seen-self-clause-answer g c =
    let words = words_in (take c.self.inside.used c.self.inside.bytes.items) in
    let old : ReaderState = reader_seen c.self.inside.seat.table_id c.self.inside.seat.me.0 words c.self.inside.taken in
    let new : ReaderState = reader_seen c.check_end-seen.new.seat.table_id c.check_end-seen.new.seat.me.0 words c.self.inside.taken in
    let key = c.self.inside.seat.me.0.ring in
    let x = c.check_end-seen.result in
    let seg = c.ring.invariant.1 ∙ (ap (λ z. z.seg) c.ring.view_is ∙ (sym (ap (λ z. z.seg) c.requires.ours) ∙ sym (ap (λ z. z.ring.seg) c.self.view_is))) in
    let at : c.segment_of-at.result ≡ (reader_of c.self.inside.seat.me.0).place / c.self.inside.seat.me.0.ring.seg = c.segment_of-at.ensures ∙ (λ i. c.self.invariant.1 i / seg i) in
    let near = c.if-at-seen.false in
    let all = c.if-finished_seen-self.true in
    let writers = c.self.invariant.3 in
    let finished_seen = c.requires.finished_seen ∙ sym (ap (λ z. z.reader.finished_seen) c.self.view_is) in
    let free = ap (λ z. z.reader.lost) c.self.view_is ∙ c.requires.reading in
    subst (λ (o : ReaderState). IsAnswer o Ended new) c.self.view_is (ended_answer key x c.segment_of-at.result old new c.check_end-seen.ensures.checked.1 at near refl refl free (omega arith))

pub returns-clause-answer : goal.returns-clause-answer
returns-clause-answer g c =
    let words = words_in (take c.self.inside.used c.self.inside.bytes.items) in
    let old : ReaderState = reader_seen c.self.inside.seat.table_id c.self.inside.seat.me.0 words c.self.inside.taken in
    let new : ReaderState = reader_seen c.check_end-seen.new.seat.table_id c.check_end-seen.new.seat.me.0 words c.self.inside.taken in
    let key = c.self.inside.seat.me.0.ring in
    let x = c.check_end-seen.result in
    let seg = c.ring.invariant.1 ∙ (ap (λ z. z.seg) c.ring.view_is ∙ (sym (ap (λ z. z.seg) c.requires.ours) ∙ sym (ap (λ z. z.ring.seg) c.self.view_is))) in
    let at : c.segment_of-at.result ≡ (reader_of c.self.inside.seat.me.0).place / c.self.inside.seat.me.0.ring.seg = c.segment_of-at.ensures ∙ (λ i. c.self.invariant.1 i / seg i) in
    let near = c.if-at-seen.false in
    let some_left = c.if-finished_seen-self.false in
    let writers = c.self.invariant.3 in
    let finished_seen = c.requires.finished_seen ∙ sym (ap (λ z. z.reader.finished_seen) c.self.view_is) in
    let free = ap (λ z. z.reader.lost) c.self.view_is ∙ c.requires.reading in
    subst (λ (o : ReaderState). IsAnswer o (NotYet c.self.inside.place) new) c.self.view_is (not_yet_answer key x c.segment_of-at.result old new c.check_end-seen.ensures.checked.1 at near refl refl free (omega arith) _ c.self.invariant.1)

pub returns-then-at-seen-clause-checked : goal.returns-then-at-seen-clause-checked
returns-then-at-seen-clause-checked g c =
    let words = words_in (take c.self.inside.used c.self.inside.bytes.items) in
    let old : ReaderState = reader_seen c.self.inside.seat.table_id c.self.inside.seat.me.0 words c.self.inside.taken in
    let new : ReaderState = reader_seen c.check_end-seen.new.seat.table_id c.check_end-seen.new.seat.me.0 words c.self.inside.taken in
    subst (λ (o : ReaderState). HasChecked o new) c.self.view_is (end_checked c.self.inside.seat.me.0.ring c.check_end-seen.result old new c.check_end-seen.ensures.checked.1)

pub returns-then-finished_seen-self-clause-checked : goal.returns-then-finished_seen-self-clause-checked
returns-then-finished_seen-self-clause-checked g c =
    let words = words_in (take c.self.inside.used c.self.inside.bytes.items) in
    let old : ReaderState = reader_seen c.self.inside.seat.table_id c.self.inside.seat.me.0 words c.self.inside.taken in
    let new : ReaderState = reader_seen c.check_end-seen.new.seat.table_id c.check_end-seen.new.seat.me.0 words c.self.inside.taken in
    subst (λ (o : ReaderState). HasChecked o new) c.self.view_is (end_checked c.self.inside.seat.me.0.ring c.check_end-seen.result old new c.check_end-seen.ensures.checked.1)

pub returns-clause-checked : goal.returns-clause-checked
returns-clause-checked g c =
    let words = words_in (take c.self.inside.used c.self.inside.bytes.items) in
    let old : ReaderState = reader_seen c.self.inside.seat.table_id c.self.inside.seat.me.0 words c.self.inside.taken in
    let new : ReaderState = reader_seen c.check_end-seen.new.seat.table_id c.check_end-seen.new.seat.me.0 words c.self.inside.taken in
    subst (λ (o : ReaderState). HasChecked o new) c.self.view_is (end_checked c.self.inside.seat.me.0.ring c.check_end-seen.result old new c.check_end-seen.ensures.checked.1)
