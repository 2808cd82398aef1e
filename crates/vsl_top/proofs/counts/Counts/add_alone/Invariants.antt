-- those of the records so far that are shown by themselves were counted, by the same selection
use Rattle.std.proofs.Common.{◌≡◌, ◌++◌, List, take}
use Rattle.vsl_top.specs.Report.{Key}
use Rattle.vsl_top.specs.Counting.{AreCounted}
use Rattle.vsl_top.specs.inside.Keys.{alone_keys}
use Rattle.vsl_top.proofs.counts.Counts.add_alone.Given as goal

abbrev pub invariant-loop-i : goal.invariant-loop-i
invariant-loop-i l = record {
  counted : (keys : List Key) → AreCounted keys l.initial.self → AreCounted (keys ++ alone_keys l.initial.viewer l.first_field (take l.i l.records)) l.self;
  same : l.viewer ≡ l.initial.viewer;
}
