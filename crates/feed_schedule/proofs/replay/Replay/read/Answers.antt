use Rattle.std.proofs.Common.{rules, ◌-◌, refl, ap, ◌∙◌, Some, None}
use Rattle.feed_schedule.specs.declared.replay.Advanced.TheVariants as answer
use Rattle.feed_schedule.proofs.TakingLemmas.{at_took, at_lost, at_wait, at_ended, reader_inside, steady_reader}
use Rattle.feed_schedule.proofs.replay.Replay.read.Goals as goal

pub invariant_of-self : goal.invariant_of-self
invariant_of-self c = steady_reader c.self.inside.active (Some answer.Took) _ _ c.self.invariant refl
    (λ s h. let a = c.in-Took.ensures.answers s.log s.number h.wrote.in_ring h.cursor in at_took _ c.next.new.self s h c.in-Took.ensures.shape a.0 a.1)

pub invariant_of-self-in-NotYet : goal.invariant_of-self-in-NotYet
invariant_of-self-in-NotYet c = steady_reader c.self.inside.active None _ _ c.self.invariant refl
    (λ s h. let a = c.in-NotYet.ensures.answers s.log s.number h.wrote.in_ring h.cursor in at_wait _ c.next.new.self s h a.0 a.1 a.2 a.4)

pub invariant_of-self-in-Ended : goal.invariant_of-self-in-Ended
invariant_of-self-in-Ended c = steady_reader c.self.inside.active (Some answer.Ended) _ _ c.self.invariant refl
    (λ s h. let a = c.in-Ended.ensures.answers s.log s.number h.wrote.in_ring h.cursor in at_ended _ c.next.new.self s h a.0 a.1 a.2 a.3)

pub invariant_of-self-in-Lost : goal.invariant_of-self-in-Lost
invariant_of-self-in-Lost c = steady_reader c.self.inside.active (Some (answer.Overrun c.in-Lost.at c.in-Lost.seen c.saturating_sub-missed.result)) _ _ c.self.invariant refl
    (λ s h. let a = c.in-Lost.ensures.answers s.log s.number h.wrote.in_ring h.cursor in at_lost _ c.seek.new.self _ _ _ s h (search rules) a.0 a.1 a.2 (c.seek.ensures.stands s.log h.wrote.in_ring)
    (c.saturating_sub-missed.ensures ∙ (λ i. c.next_number-goes_on.ensures i - (c.next_number-due.ensures ∙ (ap (λ z. z.number) a.3 ∙ h.cursor.number)) i)))

pub returns-in-Took-clause-leads : goal.returns-in-Took-clause-leads
returns-in-Took-clause-leads c = reader_inside (Some answer.Took) _ _ _ c.self.view_is
    (λ s h. let a = c.in-Took.ensures.answers s.log s.number h.wrote.in_ring h.cursor in at_took _ c.next.new.self s h c.in-Took.ensures.shape a.0 a.1)

pub returns-in-NotYet-clause-leads : goal.returns-in-NotYet-clause-leads
returns-in-NotYet-clause-leads c = reader_inside None _ _ _ c.self.view_is
    (λ s h. let a = c.in-NotYet.ensures.answers s.log s.number h.wrote.in_ring h.cursor in at_wait _ c.next.new.self s h a.0 a.1 a.2 a.4)

pub returns-in-Ended-clause-leads : goal.returns-in-Ended-clause-leads
returns-in-Ended-clause-leads c = reader_inside (Some answer.Ended) _ _ _ c.self.view_is
    (λ s h. let a = c.in-Ended.ensures.answers s.log s.number h.wrote.in_ring h.cursor in at_ended _ c.next.new.self s h a.0 a.1 a.2 a.3)

pub returns-in-Lost-clause-leads : goal.returns-in-Lost-clause-leads
returns-in-Lost-clause-leads c = reader_inside (Some (answer.Overrun c.in-Lost.at c.in-Lost.seen c.saturating_sub-missed.result)) _ _ _ c.self.view_is
    (λ s h. let a = c.in-Lost.ensures.answers s.log s.number h.wrote.in_ring h.cursor in at_lost _ c.seek.new.self _ _ _ s h (search rules) a.0 a.1 a.2 (c.seek.ensures.stands s.log h.wrote.in_ring)
    (c.saturating_sub-missed.ensures ∙ (λ i. c.next_number-goes_on.ensures i - (c.next_number-due.ensures ∙ (ap (λ z. z.number) a.3 ∙ h.cursor.number)) i)))
