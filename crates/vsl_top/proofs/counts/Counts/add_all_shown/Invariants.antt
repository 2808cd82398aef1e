-- the shown records so far were counted, by the same selection
use Rattle.std.proofs.Common.{◌≡◌, ◌++◌, List, take}
use Rattle.vsl_top.specs.Report.{Key}
use Rattle.vsl_top.specs.Counting.{AreCounted}
use Rattle.vsl_top.specs.inside.Keys.{shown_keys}
use Rattle.vsl_top.proofs.counts.Counts.add_all_shown.Given as goal

abbrev pub invariant-loop-i : goal.invariant-loop-i
invariant-loop-i l = record {
  counted : (keys : List Key) → AreCounted keys l.initial.self → AreCounted (keys ++ shown_keys l.initial.viewer l.first_field (take l.i l.records)) l.self;
  same : l.viewer ≡ l.initial.viewer;
}
