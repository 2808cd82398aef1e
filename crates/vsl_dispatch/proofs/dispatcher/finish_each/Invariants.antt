use Rattle.vsl_dispatch.specs.Entries.{Finished}
use Rattle.vsl_dispatch.specs.inside.Places.{IsFinishedBelow}
use Rattle.vsl_dispatch.proofs.dispatcher.finish_each.Given as goal

abbrev pub invariant-loop-i : goal.invariant-loop-i
invariant-loop-i g l = IsFinishedBelow (Finished g.C.Consumer.keep g.C.Consumer.output g.C.Consumer.represents) l.i l.initial.entries.items l.entries.items
