use Rattle.std.proofs.Common.{ap, ◌∙◌, subst}
use Rattle.ring_layout.specs.declared.steps.Step.TheVariants.{Lost}
use Rattle.std.specs.Prelude.{take}
use Rattle.vsl_record.specs.Words.{words_in}
use Rattle.log_ring.specs.Readers.{ReaderState, IsAnswer, HasFound, StaysLost}
use Rattle.log_ring.specs.inside.Steps.{reader_seen}
use Rattle.log_ring.proofs.AnswerLemmas.{lost_answer, lost_observed, lost_stays}
use Rattle.log_ring.proofs.reader.ReaderPass.lost_again.Goals as goal

pub returns-clause-answer : goal.returns-clause-answer
returns-clause-answer g c =
    let words = words_in (take c.self.inside.used c.self.inside.bytes.items) in
    let old : ReaderState = reader_seen c.self.inside.seat.table_id c.self.inside.seat.me.0 words c.self.inside.taken in
    let new : ReaderState = reader_seen c.check_again-seen.new.seat.table_id c.check_again-seen.new.seat.me.0 words c.self.inside.taken in
    let key = c.self.inside.seat.me.0.ring in
    let x = c.check_again-seen.result in
    let told = c.check_again-seen.ensures.checked.1 c.args.at (ap (λ z. z.reader.lost) c.self.view_is ∙ c.requires.lost) in
    subst (λ (o : ReaderState). IsAnswer o (Lost c.args.at c.check_again-seen.result) new) c.self.view_is (lost_answer old new c.args.at x told.1 told.0)

pub returns-clause-found : goal.returns-clause-found
returns-clause-found g c =
    let words = words_in (take c.self.inside.used c.self.inside.bytes.items) in
    let old : ReaderState = reader_seen c.self.inside.seat.table_id c.self.inside.seat.me.0 words c.self.inside.taken in
    let new : ReaderState = reader_seen c.check_again-seen.new.seat.table_id c.check_again-seen.new.seat.me.0 words c.self.inside.taken in
    let told = c.check_again-seen.ensures.checked.1 c.args.at (ap (λ z. z.reader.lost) c.self.view_is ∙ c.requires.lost) in
    subst (λ (o : ReaderState). HasFound o (Lost c.args.at c.check_again-seen.result) new) c.self.view_is (lost_observed old new c.args.at c.check_again-seen.result told.1)

pub returns-clause-lost : goal.returns-clause-lost
returns-clause-lost g c =
    let words = words_in (take c.self.inside.used c.self.inside.bytes.items) in
    let old : ReaderState = reader_seen c.self.inside.seat.table_id c.self.inside.seat.me.0 words c.self.inside.taken in
    let new : ReaderState = reader_seen c.check_again-seen.new.seat.table_id c.check_again-seen.new.seat.me.0 words c.self.inside.taken in
    let lost = ap (λ z. z.reader.lost) c.self.view_is ∙ c.requires.lost in
    let told = c.check_again-seen.ensures.checked.1 c.args.at lost in
    subst (λ (o : ReaderState). StaysLost o (Lost c.args.at c.check_again-seen.result) new) c.self.view_is (lost_stays old new c.args.at c.check_again-seen.result lost told.1)
