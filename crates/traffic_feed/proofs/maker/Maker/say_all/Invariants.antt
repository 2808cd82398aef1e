-- the rows so far were said
use Rattle.std.proofs.Common.{◌≡◌, ◌+◌, ◌≤◌, take}
use Rattle.std.specs.List.{flat_map, fold}
use Rattle.traffic_feed.specs.Made.{row_lines}
use Rattle.traffic_feed.specs.inside.Gathering.{stepped}
use Rattle.traffic_feed.proofs.maker.Maker.say_all.Given as goal

abbrev pub invariant-loop-row : goal.invariant-loop-row
invariant-loop-row l = record {
  state : l.self.gathering ≡ fold stepped l.initial.self.gathering (flat_map (λ row. row_lines l.k l.x row.0 row.1 row.2.now row.3 row.4.now) (take l.row-index l.rows));
  few_cuts : l.self.gathering.cuts ≤ l.initial.self.gathering.cuts + l.row-index;
}
