use Rattle.std.proofs.Common.{ap, refl, sym, Ok, ◌∙◌, inl, inr}
use Rattle.txn_rows.specs.TableState.{TableState}
use Rattle.txn_groups.specs.Groups.{groups_state}
use Rattle.text_printer.specs.declared.next.Next.TheVariants.{Unit}
use Rattle.text_printer.specs.inside.Next.{item_of}
use Rattle.text_printer.proofs.NextLemmas.{completed_all, completed_flush, completed_raw}
use Rattle.text_printer.proofs.next.complete.Goals as goal

pub returns-then-branch-clause-completed : goal.returns-then-branch-clause-completed
returns-then-branch-clause-completed g c =
    rw (c.in-Unit.is, c.new-left.ensures.items)
    (completed_raw _ _ _ _ (Unit c.in-Unit.unit) c.in-Unit.unit.now _ _ _ refl (sym c.grouping.ensures ∙ c.take_alone.ensures.raw (c.in_ok-take_alone-in-Unit.was ∙ ap Ok c.if-branch.true)) (rw c.if-branch.true at c.in_ok-take_alone-in-Unit.ensures.gave))

pub returns-in_ok-step-in-Unit-clause-completed : goal.returns-in_ok-step-in-Unit-clause-completed
returns-in_ok-step-in-Unit-clause-completed g c =
    rw c.in-Unit.is
    (completed_all _ _ _ _ (Unit c.in-Unit.unit) (groups_state c.args.groups.now) (groups_state c.step.new.self) _ _ _ c.requires.asked (rw c.new-left.ensures.items at c.in_ok-step-in-Unit.ensures.ok) (rw c.if-branch.false at c.in_ok-take_alone-in-Unit.ensures.gave))

pub returns-in_ok-flush-in-Missed : goal.returns-in_ok-flush-in-Missed
returns-in_ok-flush-in-Missed g c = let stepped = rw c.new-left.ensures.items at c.in_ok-flush-in-Missed.ensures.ok in record {
  completed = completed_flush _ _ _ _ c.args.next (groups_state c.args.groups.now) (groups_state c.flush.new.self) _ _ (elim c.in-Missed.is [ inl missed ↦ ap item_of missed | inr ended ↦ ap item_of ended ]) c.requires.asked stepped;
  consumer = record { keeps = refl; writes = refl };
  options = ap (λ (t : TableState). t.options) stepped.table.state;
  asked = stepped.queries ∙ c.requires.asked;
  same = refl;
}
