use Rattle.std.proofs.Common.{[], ◌∷◌}
use Rattle.std.proofs.lemmas.List.{append-nil}
use Rattle.std.proofs.lemmas.Result.{on_ok_weaker}
use Rattle.ring_layout.specs.declared.item.Item.TheVariants as items
use Rattle.text_printer.specs.Laws.{taken_append}
use Rattle.text_printer.specs.Taken.{taken_of}
use Rattle.text_printer.proofs.printer.PrinterTexts.item.Goals as goal

pub returns-in-Unit-clause-takes : goal.returns-in-Unit-clause-takes
returns-in-Unit-clause-takes g c = on_ok_weaker c.take.result
    (λ took i met taken held fewer. (held.0, rw (c.in-Unit.is, taken_append met (items.Unit c.in-Unit.unit ∷ [])) (took (taken_of met) taken held.1))) c.take.ensures.takes

pub returns-in-Overrun-clause-takes : goal.returns-in-Overrun-clause-takes
returns-in-Overrun-clause-takes g c = on_ok_weaker c.take-in-Overrun.result
    (λ took i met taken held fewer. (held.0, rw (c.in-Overrun.is, taken_append met (items.Overrun c.in-Overrun.at c.in-Overrun.seen ∷ [])) (took (taken_of met) taken held.1))) c.take-in-Overrun.ensures.takes

pub returns-in-Missed-clause-takes : goal.returns-in-Missed-clause-takes
returns-in-Missed-clause-takes g c i met taken held fewer = (held.0, rw (c.in-Missed.is, taken_append met (items.Missed c.in-Missed.units ∷ []), append-nil (taken_of met)) held.1)
