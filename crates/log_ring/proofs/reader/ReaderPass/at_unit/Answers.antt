use Rattle.std.proofs.Common.{rules, ◌≡◌, ◌*◌, ◌/◌, ◌++◌, ℕ, List, length, take, drop, sym, ap, ◌∙◌, subst}
use Rattle.std.proofs.lemmas.List.{take_at}
use Rattle.vsl_record.specs.Words.{words_in}
use Rattle.ring_layout.specs.declared.steps.Step.TheVariants.{Took}
use Rattle.log_ring.specs.Readers.{ReaderState, IsAnswer}
use Rattle.log_ring.specs.inside.Steps.{HasChecked, reader_seen}
use Rattle.log_ring.specs.inside.Reading.{reader_of, unchecked_words}
use Rattle.log_ring.proofs.AnswerLemmas.{front_words, took_answer, took_kept, took_place, unit_checked}
use Rattle.log_ring.proofs.reader.ReaderPass.at_unit.Goals as goal

pub returns-clause-answer : goal.returns-clause-answer
returns-clause-answer g c =
    let copied = c.copy.ensures.copied in
    let mid = reader_of c.copy.new.seat.me.0 in
    let key = c.copy.new.seat.me.0.ring in
    let shape = c.ring.invariant.1 ∙ (ap (λ z. z.seg) c.ring.view_is ∙ (sym (ap (λ z. z.seg) c.requires.ours) ∙ sym (ap (λ z. z.ring.seg) c.self.view_is))) in
    let same_seg = sym (ap (λ m. m.0.ring.seg) copied.seat) in
    let place = c.self.invariant.1 ∙ sym (ap (λ r. r.place) copied.reader) in
    let at : c.segment_of-at.result ≡ mid.place / key.seg = c.segment_of-at.ensures ∙ (λ i. place i / (shape ∙ same_seg) i) in
    let free = ap (λ r. r.lost) copied.reader ∙ (ap (λ z. z.reader.lost) c.self.view_is ∙ c.requires.reading) in
    let near = c.if-at-seen.false in
    let buffer : List ℕ = c.copy.new.bytes in
    let words : List ℕ = words_in (take (4 * c.args.count) (take c.self.inside.bytes.len (buffer ++ drop (length buffer) c.self.inside.bytes.items))) in
    let words_are : words ≡ unchecked_words mid.unchecked = front_words buffer c.self.inside.bytes.items c.self.inside.bytes.len c.args.count (search rules) (search rules) ∙ sym (ap (λ r. unchecked_words r.unchecked) copied.reader) in
    let old : ReaderState = reader_seen c.self.inside.seat.table_id c.self.inside.seat.me.0 (words_in (take c.self.inside.used c.self.inside.bytes.items)) c.self.inside.taken in
    let new : ReaderState = reader_seen c.check_unit-seen.new.seat.table_id c.check_unit-seen.new.seat.me.0 words c.self.inside.number in
    subst (λ (o : ReaderState). IsAnswer o Took new) c.self.view_is (took_answer key c.check_unit-seen.result c.segment_of-at.result mid old new c.check_unit-seen.ensures.checked.1 at near same_seg (ap (λ r. r.items) copied.reader) free words_are (c.self.invariant.7 ∙ sym (ap (λ r. r.number) copied.reader)))

pub returns-clause-word : goal.returns-clause-word
returns-clause-word g c =
    let copied = c.copy.ensures.copied in
    let mid = reader_of c.copy.new.seat.me.0 in
    let key = c.copy.new.seat.me.0.ring in
    let shape = c.ring.invariant.1 ∙ (ap (λ z. z.seg) c.ring.view_is ∙ (sym (ap (λ z. z.seg) c.requires.ours) ∙ sym (ap (λ z. z.ring.seg) c.self.view_is))) in
    let same_seg = sym (ap (λ m. m.0.ring.seg) copied.seat) in
    let place = c.self.invariant.1 ∙ sym (ap (λ r. r.place) copied.reader) in
    let at : c.segment_of-at.result ≡ mid.place / key.seg = c.segment_of-at.ensures ∙ (λ i. place i / (shape ∙ same_seg) i) in
    let near = c.if-at-seen.false in
    let buffer : List ℕ = c.copy.new.bytes in
    let words : List ℕ = words_in (take (4 * c.args.count) (take c.self.inside.bytes.len (buffer ++ drop (length buffer) c.self.inside.bytes.items))) in
    let words_are : words ≡ unchecked_words mid.unchecked = front_words buffer c.self.inside.bytes.items c.self.inside.bytes.len c.args.count (search rules) (search rules) ∙ sym (ap (λ r. unchecked_words r.unchecked) copied.reader) in
    let old : ReaderState = reader_seen c.self.inside.seat.table_id c.self.inside.seat.me.0 (words_in (take c.self.inside.used c.self.inside.bytes.items)) c.self.inside.taken in
    let new : ReaderState = reader_seen c.check_unit-seen.new.seat.table_id c.check_unit-seen.new.seat.me.0 words c.self.inside.number in
    took_place key c.check_unit-seen.result c.segment_of-at.result c.args.self.now.reader.place mid old new c.check_unit-seen.ensures.checked.1 at near (ap (λ r. r.place) copied.reader ∙ ap (λ z. z.reader.place) c.self.view_is) words_are

pub returns-then-at-seen-clause-checked : goal.returns-then-at-seen-clause-checked
returns-then-at-seen-clause-checked g c =
    let copied = c.copy.ensures.copied in
    let mid = reader_of c.copy.new.seat.me.0 in
    let key = c.copy.new.seat.me.0.ring in
    let buffer : List ℕ = c.copy.new.bytes in
    let words : List ℕ = words_in (take (4 * c.args.count) (take c.self.inside.bytes.len (buffer ++ drop (length buffer) c.self.inside.bytes.items))) in
    let old : ReaderState = reader_seen c.self.inside.seat.table_id c.self.inside.seat.me.0 (words_in (take c.self.inside.used c.self.inside.bytes.items)) c.self.inside.taken in
    let new : ReaderState = reader_seen c.check_unit-seen.new.seat.table_id c.check_unit-seen.new.seat.me.0 words c.self.inside.taken in
    subst (λ (o : ReaderState). HasChecked o new) c.self.view_is (unit_checked key c.check_unit-seen.result old new mid c.check_unit-seen.ensures.checked.1 (ap (λ r. r.observed) copied.reader) (ap (λ r. r.finished_seen) copied.reader))

pub returns-clause-checked : goal.returns-clause-checked
returns-clause-checked g c =
    let copied = c.copy.ensures.copied in
    let mid = reader_of c.copy.new.seat.me.0 in
    let key = c.copy.new.seat.me.0.ring in
    let buffer : List ℕ = c.copy.new.bytes in
    let words : List ℕ = words_in (take (4 * c.args.count) (take c.self.inside.bytes.len (buffer ++ drop (length buffer) c.self.inside.bytes.items))) in
    let old : ReaderState = reader_seen c.self.inside.seat.table_id c.self.inside.seat.me.0 (words_in (take c.self.inside.used c.self.inside.bytes.items)) c.self.inside.taken in
    let new : ReaderState = reader_seen c.check_unit-seen.new.seat.table_id c.check_unit-seen.new.seat.me.0 words c.self.inside.number in
    subst (λ (o : ReaderState). HasChecked o new) c.self.view_is (unit_checked key c.check_unit-seen.result old new mid c.check_unit-seen.ensures.checked.1 (ap (λ r. r.observed) copied.reader) (ap (λ r. r.finished_seen) copied.reader))

pub invariant_of-self-2 : goal.invariant_of-self-2
invariant_of-self-2 g c =
    let copied = c.copy.ensures.copied in
    let mid = reader_of c.copy.new.seat.me.0 in
    let key = c.copy.new.seat.me.0.ring in
    let shape = c.ring.invariant.1 ∙ (ap (λ z. z.seg) c.ring.view_is ∙ (sym (ap (λ z. z.seg) c.requires.ours) ∙ sym (ap (λ z. z.ring.seg) c.self.view_is))) in
    let same_seg = sym (ap (λ m. m.0.ring.seg) copied.seat) in
    let place = c.self.invariant.1 ∙ sym (ap (λ r. r.place) copied.reader) in
    let at : c.segment_of-at.result ≡ mid.place / key.seg = c.segment_of-at.ensures ∙ (λ i. place i / (shape ∙ same_seg) i) in
    let buffer : List ℕ = c.copy.new.bytes in
    let long : length buffer ≡ c.self.inside.bytes.len = search rules in
    let kept = took_kept key c.check_unit-seen.result c.segment_of-at.result c.self.inside.place c.self.inside.number c.args.count (words_in buffer) mid (reader_of c.check_unit-seen.new.seat.me.0) c.check_unit-seen.ensures.checked.1 at c.if-at-seen.false
    place (c.self.invariant.7 ∙ sym (ap (λ r. r.number) copied.reader)) (ap (λ r. unchecked_words r.unchecked) copied.reader) copied.long in
    let size = ap (λ l. length l) (take_at buffer (drop (length buffer) c.self.inside.bytes.items) c.self.inside.bytes.len long) ∙ search rules in
    (search rules, kept.0, search rules, search rules, kept.1, size, search rules, kept.2, kept.3, kept.4)
