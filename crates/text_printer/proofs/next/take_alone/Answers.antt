-- a query that holds always holds for each record
use Rattle.std.proofs.Common.{ap, sym, Ok, ◌∙◌}
use Rattle.vsl_dispatch.specs.Groups.{raw_groups}
use Rattle.text_printer.specs.inside.Asked.{alone_query}
use Rattle.text_printer.proofs.NextLemmas.{always_holds}
use Rattle.text_printer.proofs.next.take_alone.Goals as goal

pub returns-then-branch-clause-gave : goal.returns-then-branch-clause-gave
returns-then-branch-clause-gave g c =
    rw (always_holds (alone_query c.args.asked.now) (sym c.always.ensures ∙ c.offer.ensures.always (c.in_ok-offer.was ∙ ap Ok c.if-branch.true)) (raw_groups c.args.unit.now))
    (rw c.if-branch.true at c.in_ok-offer.ensures.gave)
