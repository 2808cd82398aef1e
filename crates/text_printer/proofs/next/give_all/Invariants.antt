-- the groups before the index for which the first query holds were given
use Rattle.std.proofs.Common.{◌≡◌, false, take}
use Rattle.vsl_dispatch.specs.Entries.{IsSame}
use Rattle.text_printer.specs.inside.Next.{Gave, first_held}
use Rattle.text_printer.proofs.next.give_all.Given as goal

abbrev pub invariant-loop-chosen : goal.invariant-loop-chosen
invariant-loop-chosen g l = record {
  gave : Gave g.C.Consumer.keep g.C.Consumer.output g.C.Consumer.represents (first_held (take l.chosen-index l.all)) false l.initial.entry l.entry;
  consumer : IsSame g.C.Consumer.keep g.C.Consumer.output l.initial.entry.consumer l.entry.consumer;
}
