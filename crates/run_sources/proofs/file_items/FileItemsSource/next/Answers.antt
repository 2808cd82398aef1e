use Rattle.std.proofs.Common.{true, false}
use Rattle.run_sources.proofs.FileLemmas.{file_unit, file_end, file_stopped, file_unit_at_hand, file_stopped_at_hand, asked_so}
use Rattle.run_sources.proofs.file_items.FileItemsSource.next.Goals as goal

pub returns-in-Ok-Unit-clause-came : goal.returns-in-Ok-Unit-clause-came
returns-in-Ok-Unit-clause-came g c = λ start calls met gave.
    asked_so _ true _ _ _ _
    (λ hand. file_unit_at_hand start _ calls met _ _ gave (c.next.ensures.unread_at_hand hand) _ c.in-Ok-Unit.unit c.next.ensures.handle (rw c.in-Ok-Unit.field-0-is at (c.in-Ok-Unit.ensures.at_hand _ _ gave.represents hand)))
    (λ not. file_unit start _ calls met _ _ gave not _ c.in-Ok-Unit.unit c.next.ensures.handle (rw c.in-Ok-Unit.field-0-is at (c.in-Ok-Unit.ensures.stepped _ _ gave.represents)))

pub returns-in-Ok-End-clause-came : goal.returns-in-Ok-End-clause-came
returns-in-Ok-End-clause-came g c = λ start calls met gave.
    asked_so _ true _ _ _ _
    (λ hand. absurd (rw c.in-Ok-End.field-0-is at (c.in-Ok-End.ensures.at_hand _ _ gave.represents hand)))
    (λ not. file_end start _ calls met _ _ gave not _ c.next.ensures.handle (rw c.in-Ok-End.field-0-is at (c.in-Ok-End.ensures.stepped _ _ gave.represents)))

pub returns-in-Err-clause-came : goal.returns-in-Err-clause-came
returns-in-Err-clause-came g c = λ start calls met gave.
    rw c.halt.ensures (asked_so _ false _ _ _ _
    (λ hand. file_stopped_at_hand start _ calls met _ _ gave (c.next.ensures.unread_at_hand hand) start _ c.in-Err.fault (c.in-Err.ensures.at_hand _ _ gave.represents hand))
    (λ not. file_stopped start _ calls met _ _ gave not start c.in-Err.fault (c.in-Err.ensures.stepped _ _ gave.represents)))
