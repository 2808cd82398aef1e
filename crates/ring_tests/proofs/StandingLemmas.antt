-- Each call leaves the cursor in the ring's log.
use Rattle.std.proofs.Common.{◌≡◌, ℕ, ◌+◌, ◌<◌, [], ◌∷◌, ◌++◌, sym, refl, ◌∙◌, subst, arith, Option, Some, None}
use Rattle.std.proofs.lemmas.Option.{none-some}
use Rattle.vsl_record.specs.Unit.{LogUnit, Log}
use Rattle.vsl_record.specs.Words.{unit_words}
use Rattle.ring_layout.specs.declared.steps.Step.{Step}
use Rattle.ring_layout.specs.declared.steps.Step.TheVariants.{Took, NotYet, Ended, Lost}
use Rattle.ring_layout.specs.History.{first_number}
use Rattle.ring_plain.specs.Ring.{RingState, IsRingOf}
use Rattle.ring_plain.specs.Cursor.{CursorState, Stands, StandsAtStart, Answers, overrun_at}
use Rattle.ring_plain.proofs.CursorLemmas.{stands_longer}
use Rattle.ring_tests.specs.Standing.{StandsIn}

pub stands_first : (ring : RingState) (cursor : CursorState) → cursor.seg ≡ ring.seg → IsRingOf ring [] → ((log : Log) → Stands cursor log 0) → StandsIn ring cursor
stands_first ring cursor shape empty first = record { shape = shape; log = []; ring_of = empty; number = 0; stands = λ free. first [] }

pub stands_put : (old new : RingState) (cursor : CursorState) (u : LogUnit) → StandsIn old cursor → new.seg ≡ old.seg → ((log : Log) → IsRingOf old log → IsRingOf new (log ++ u ∷ [])) → StandsIn new cursor
stands_put old new cursor u h shape put =
    let pos : 0 < cursor.seg = (let z = h.ring_of.segment in let s = h.shape in omega arith) in
    record { shape = h.shape ∙ sym shape; log = h.log ++ u ∷ []; ring_of = put h.log h.ring_of; number = h.number; stands = λ free. stands_longer cursor h.log u h.number pos (h.stands free) }

pub stands_ended : (old new : RingState) (cursor : CursorState) → StandsIn old cursor → new.seg ≡ old.seg → ((log : Log) → IsRingOf old log → IsRingOf new log) → StandsIn new cursor
stands_ended old new cursor h shape ended = record { shape = h.shape ∙ sym shape; log = h.log; ring_of = ended h.log h.ring_of; number = h.number; stands = h.stands }

pub stands_sought : (ring : RingState) (old new : CursorState) (segment : ℕ) → StandsIn ring old → new.seg ≡ old.seg → ((log : Log) → IsRingOf ring log → StandsAtStart new log segment) → StandsIn ring new
stands_sought ring old new segment h shape sought = record { shape = shape ∙ h.shape; log = h.log; ring_of = h.ring_of; number = first_number unit_words new.seg h.log segment; stands = λ free. (sought h.log h.ring_of).stands }

-- a cursor that wasn't overrun, after it answered
stands_after : (ring : RingState) (old new : CursorState) (step : Step) → StandsIn ring old → new.seg ≡ old.seg → old.lost ≡ None → new.lost ≡ overrun_at step
    → ((log : Log) (k : ℕ) → IsRingOf ring log → Stands old log k → Answers ring log k step old new) → StandsIn ring new
stands_after ring old new Took h shape free lost answers = record { shape = shape ∙ h.shape; log = h.log; ring_of = h.ring_of; number = h.number + 1; stands = λ z. (answers h.log h.number h.ring_of (h.stands free)).1.stands }
stands_after ring old new (NotYet p) h shape free lost answers = subst (StandsIn ring) (sym (answers h.log h.number h.ring_of (h.stands free)).4) h
stands_after ring old new Ended h shape free lost answers = subst (StandsIn ring) (sym (answers h.log h.number h.ring_of (h.stands free)).3) h
stands_after ring old new (Lost at seen) h shape free lost answers = record { shape = shape ∙ h.shape; log = h.log; ring_of = h.ring_of; number = 0; stands = λ z. absurd (none-some at (sym z ∙ lost)) }

stands_met : (ring : RingState) (old new : CursorState) (step : Step) (lost : Option ℕ) → old.lost ≡ lost → StandsIn ring old → new.seg ≡ old.seg → new.lost ≡ overrun_at step
    → ((log : Log) (k : ℕ) → IsRingOf ring log → Stands old log k → Answers ring log k step old new)
    → ((at : ℕ) → old.lost ≡ Some at → (step ≡ Lost at ring.counter) × (new ≡ old)) → StandsIn ring new
stands_met ring old new step None is h shape lost answers still = stands_after ring old new step h shape is lost answers
stands_met ring old new step (Some at) is h shape lost answers still = subst (StandsIn ring) (sym (still at is).1) h

pub stands_next : (ring : RingState) (old new : CursorState) (step : Step) → StandsIn ring old → new.seg ≡ old.seg → new.lost ≡ overrun_at step
    → ((log : Log) (k : ℕ) → IsRingOf ring log → Stands old log k → Answers ring log k step old new)
    → ((at : ℕ) → old.lost ≡ Some at → (step ≡ Lost at ring.counter) × (new ≡ old)) → StandsIn ring new
stands_next ring old new step h = stands_met ring old new step old.lost refl h
