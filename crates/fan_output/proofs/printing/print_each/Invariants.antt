-- The outputs below the place were written, and the others wait.
use Rattle.std.proofs.Common.{◌≡◌}
use Rattle.fan_output.proofs.EachLemmas.{IsDone}
use Rattle.fan_output.proofs.printing.print_each.Given as goal

abbrev pub invariant-loop-place : goal.invariant-loop-place
invariant-loop-place g l = record {
  text : g.T.Texts.text l.texts ≡ g.T.Texts.text l.initial.texts;
  filled : g.T.Texts.filled l.texts ≡ g.T.Texts.filled l.initial.texts;
  count : g.T.Texts.count l.texts ≡ g.T.Texts.count l.initial.texts;
  done : IsDone (g.T.Texts.text l.initial.texts) (g.T.Texts.filled l.initial.texts) l.sinks.items l.piece (g.T.Texts.holds l.initial.texts) (g.T.Texts.holds l.texts) l.initial.live.items l.live.items l.initial.unwritten l.unwritten l.place (g.W.World.seen l.initial.world) (g.W.World.seen l.world);
}
