-- The items that came were taken, and both may be asked again.
use Rattle.std.proofs.Common.{true, false, ◌+◌, ◌-◌, ◌*◌, List}
use Rattle.vio.specs.World.{Seen}
use Rattle.ring_layout.specs.declared.item.Item.{Item}
use Rattle.one_run.specs.Run.{MadeBut, ReadyFor, Started}
use Rattle.one_run.specs.inside.Turns.{Goes, HasCome}
use Rattle.one_run.proofs.pass.run_on.Given as goal

abbrev pub invariant-loop-now : goal.invariant-loop-now
invariant-loop-now g l = record {
  came : HasCome (g.S.Source.gave) l.source;
  made : (start : g.row.O.Denot) (before : Seen) → MadeBut (g.O.Output.alone start) true (g.S.Source.reads l.initial.source) (g.O.Output.writes start) (Started (g.S.Source.gave l.initial.source l.initial.source) (g.O.Output.printed start l.initial.output)) before (g.W.World.seen l.initial.world)
      → (done : List Item) × MadeBut (g.O.Output.alone start) true (g.S.Source.reads l.initial.source) (g.O.Output.writes start)
      (Goes (g.S.Source.gave l.initial.source l.source) (ReadyFor g.S.Source.asks g.O.Output.printed l.initial.source start) (g.O.Output.took start l.output) l.met done) before (g.W.World.seen l.world);
  source : g.S.Source.is_ready l.source;
  output : g.O.Output.is_ready l.output (g.W.World.seen l.world);
}

abbrev pub decreases-loop-now : goal.decreases-loop-now
decreases-loop-now g l = 2 * 18446744073709551615 - (l.met.units + l.met.items)
