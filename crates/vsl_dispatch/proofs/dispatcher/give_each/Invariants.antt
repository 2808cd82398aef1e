use Rattle.vsl_dispatch.specs.Entries.{Handed}
use Rattle.vsl_dispatch.specs.inside.Places.{IsHandedBelow}
use Rattle.vsl_dispatch.proofs.dispatcher.give_each.Given as goal

abbrev pub invariant-loop-i : goal.invariant-loop-i
invariant-loop-i g l = IsHandedBelow (Handed g.C.Consumer.keep g.C.Consumer.output g.C.Consumer.represents l.chosen.group) l.i l.chosen.holds l.initial.entries.items l.entries.items
