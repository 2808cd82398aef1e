use Rattle.std.proofs.Common.{◌≡◌, ◌/◌, sym, ap, ◌∙◌, subst}
use Rattle.ring_layout.specs.declared.steps.Step.TheVariants.{Lost}
use Rattle.std.specs.Prelude.{take}
use Rattle.vsl_record.specs.Words.{words_in}
use Rattle.log_ring.specs.Readers.{ReaderState, IsAnswer}
use Rattle.log_ring.specs.inside.Steps.{HasChecked, reader_seen}
use Rattle.log_ring.specs.inside.Reading.{reader_of}
use Rattle.log_ring.proofs.AnswerLemmas.{nothing_answer, nothing_checked}
use Rattle.log_ring.proofs.reader.ReaderPass.at_nothing.Goals as goal

pub returns-clause-answer : goal.returns-clause-answer
returns-clause-answer g c =
    let words = words_in (take c.self.inside.used c.self.inside.bytes.items) in
    let old : ReaderState = reader_seen c.self.inside.seat.table_id c.self.inside.seat.me.0 words c.self.inside.taken in
    let new : ReaderState = reader_seen c.check_nothing-seen.new.seat.table_id c.check_nothing-seen.new.seat.me.0 words c.self.inside.taken in
    let key = c.self.inside.seat.me.0.ring in
    let x = c.check_nothing-seen.result in
    let seg = c.ring.invariant.1 ∙ (ap (λ z. z.seg) c.ring.view_is ∙ (sym (ap (λ z. z.seg) c.requires.ours) ∙ sym (ap (λ z. z.ring.seg) c.self.view_is))) in
    let at : c.segment_of-at.result ≡ (reader_of c.self.inside.seat.me.0).place / c.self.inside.seat.me.0.ring.seg = c.segment_of-at.ensures ∙ (λ i. c.self.invariant.1 i / seg i) in
    subst (λ (o : ReaderState). IsAnswer o (Lost c.segment_of-at.result c.check_nothing-seen.result) new) c.self.view_is (nothing_answer key x c.segment_of-at.result old new c.check_nothing-seen.ensures.checked.1 at)

pub returns-clause-checked : goal.returns-clause-checked
returns-clause-checked g c =
    let words = words_in (take c.self.inside.used c.self.inside.bytes.items) in
    let old : ReaderState = reader_seen c.self.inside.seat.table_id c.self.inside.seat.me.0 words c.self.inside.taken in
    let new : ReaderState = reader_seen c.check_nothing-seen.new.seat.table_id c.check_nothing-seen.new.seat.me.0 words c.self.inside.taken in
    subst (λ (o : ReaderState). HasChecked o new) c.self.view_is (nothing_checked c.self.inside.seat.me.0.ring c.check_nothing-seen.result old new c.check_nothing-seen.ensures.checked.1)
