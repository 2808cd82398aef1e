-- the shown records of the transactions so far were counted, by the same selection
use Rattle.std.proofs.Common.{◌≡◌, ◌++◌, List, take}
use Rattle.vsl_top.specs.Report.{Key}
use Rattle.vsl_top.specs.Counting.{AreCounted}
use Rattle.vsl_top.specs.inside.Keys.{member_keys}
use Rattle.vsl_top.proofs.counts.Counts.add_group.Given as goal

abbrev pub invariant-loop-member : goal.invariant-loop-member
invariant-loop-member l = record {
  counted : (keys : List Key) → AreCounted keys l.initial.self → AreCounted (keys ++ member_keys l.initial.viewer l.first_field (take l.member-index l.member-items)) l.self;
  same : l.viewer ≡ l.initial.viewer;
}
