-- the units before this one were put and counted, and so were the waits; the gate was asked before each
use Rattle.std.proofs.Common.{◌≡◌, ◌-◌, ◌<◌, ℕ, length, min}
use Rattle.traffic_feed.specs.Feeding.{most_waits}
use Rattle.traffic_feed.specs.inside.Putting.{HasPutFirst}
use Rattle.traffic_feed.proofs.feeding.put_all.Given as goal

abbrev pub invariant-loop-at : goal.invariant-loop-at
invariant-loop-at g l = record {
  put : HasPutFirst l.ring l.counters l.units l.at l.pass l.counts l.busy;
  busy : l.busy ≡ min l.pass.busy most_waits;
  number : l.pass.number ≡ l.initial.pass.number;
  asked : (unit : ℕ) → unit < l.at → g.G.Gate.was_asked l.gate l.worker unit;
}

abbrev pub decreases-loop-at : goal.decreases-loop-at
decreases-loop-at g l = length l.units - l.at
