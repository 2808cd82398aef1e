use Rattle.std.proofs.Common.{◌≡◌, ◌+◌, ◌*◌, ◌/◌, None, refl, rules, sym, ap, ◌∙◌, subst}
use Rattle.ring_layout.specs.declared.steps.Step.TheVariants.{Lost}
use Rattle.std.specs.Prelude.{take}
use Rattle.vsl_record.specs.Words.{words_in}
use Rattle.log_ring.specs.Readers.{ReaderState, IsAnswer}
use Rattle.log_ring.specs.inside.Steps.{HasChecked, reader_seen}
use Rattle.log_ring.specs.inside.Reading.{reader_of, FindsLap}
use Rattle.log_ring.proofs.AnswerLemmas.{far_answer, lap_moved, lap_checked}
use Rattle.log_ring.proofs.reader.ReaderPass.at_lap.Goals as goal

pub returns-then-at-seen-clause-overrun : goal.returns-then-at-seen-clause-overrun
returns-then-at-seen-clause-overrun g c =
    let words = words_in (take c.self.inside.used c.self.inside.bytes.items) in
    let old : ReaderState = reader_seen c.self.inside.seat.table_id c.self.inside.seat.me.0 words c.self.inside.taken in
    let new : ReaderState = reader_seen c.check_lap-seen.new.seat.table_id c.check_lap-seen.new.seat.me.0 words c.self.inside.taken in
    let key = c.self.inside.seat.me.0.ring in
    let x = c.check_lap-seen.result in
    let seg = c.ring.invariant.1 ∙ (ap (λ z. z.seg) c.ring.view_is ∙ (sym (ap (λ z. z.seg) c.requires.ours) ∙ sym (ap (λ z. z.ring.seg) c.self.view_is))) in
    let at : c.segment_of-at.result ≡ (reader_of c.self.inside.seat.me.0).place / c.self.inside.seat.me.0.ring.seg = c.segment_of-at.ensures ∙ (λ i. c.self.invariant.1 i / seg i) in
    subst (λ (o : ReaderState). IsAnswer o (Lost c.segment_of-at.result c.check_lap-seen.result) new) c.self.view_is (far_answer FindsLap key x c.segment_of-at.result old new c.check_lap-seen.ensures.checked.1 at (search rules))

pub returns-clause-moved : goal.returns-clause-moved
returns-clause-moved g c =
    let words = words_in (take c.self.inside.used c.self.inside.bytes.items) in
    let old : ReaderState = reader_seen c.self.inside.seat.table_id c.self.inside.seat.me.0 words c.self.inside.taken in
    let new : ReaderState = reader_seen c.check_lap-seen.new.seat.table_id c.check_lap-seen.new.seat.me.0 words c.self.inside.taken in
    let key = c.self.inside.seat.me.0.ring in
    let x = c.check_lap-seen.result in
    let seg = c.ring.invariant.1 ∙ (ap (λ z. z.seg) c.ring.view_is ∙ (sym (ap (λ z. z.seg) c.requires.ours) ∙ sym (ap (λ z. z.ring.seg) c.self.view_is))) in
    let at : c.segment_of-at.result ≡ (reader_of c.self.inside.seat.me.0).place / c.self.inside.seat.me.0.ring.seg = c.segment_of-at.ensures ∙ (λ i. c.self.invariant.1 i / seg i) in
    let near = c.if-at-seen.false in
    let free = ap (λ z. z.reader.lost) c.self.view_is ∙ c.requires.reading in
    subst (λ (o : ReaderState). (new.reader.lost ≡ None) × (new.reader.items ≡ o.reader.items) × (new.reader.place ≡ (o.reader.place / (8 * o.ring.seg) + 1) * (8 * o.ring.seg))) c.self.view_is
    (lap_moved key x c.segment_of-at.result key.seg old new c.check_lap-seen.ensures.checked.1 at near refl free)

pub returns-then-at-seen-clause-checked : goal.returns-then-at-seen-clause-checked
returns-then-at-seen-clause-checked g c =
    let words = words_in (take c.self.inside.used c.self.inside.bytes.items) in
    let old : ReaderState = reader_seen c.self.inside.seat.table_id c.self.inside.seat.me.0 words c.self.inside.taken in
    let new : ReaderState = reader_seen c.check_lap-seen.new.seat.table_id c.check_lap-seen.new.seat.me.0 words c.self.inside.taken in
    subst (λ (o : ReaderState). HasChecked o new) c.self.view_is (lap_checked c.self.inside.seat.me.0.ring c.check_lap-seen.result old new c.check_lap-seen.ensures.checked.1)

pub returns-clause-checked : goal.returns-clause-checked
returns-clause-checked g c =
    let words = words_in (take c.self.inside.used c.self.inside.bytes.items) in
    let old : ReaderState = reader_seen c.self.inside.seat.table_id c.self.inside.seat.me.0 words c.self.inside.taken in
    let new : ReaderState = reader_seen c.check_lap-seen.new.seat.table_id c.check_lap-seen.new.seat.me.0 words c.self.inside.taken in
    subst (λ (o : ReaderState). HasChecked o new) c.self.view_is (lap_checked c.self.inside.seat.me.0.ring c.check_lap-seen.result old new c.check_lap-seen.ensures.checked.1)
