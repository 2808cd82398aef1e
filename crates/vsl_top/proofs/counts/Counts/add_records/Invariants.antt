-- the records so far were counted
use Rattle.std.proofs.Common.{◌++◌, List, map, take}
use Rattle.vsl_top.specs.Report.{Key, key_of}
use Rattle.vsl_top.specs.Counting.{AreCounted}
use Rattle.vsl_top.proofs.counts.Counts.add_records.Given as goal

abbrev pub invariant-loop-i : goal.invariant-loop-i
invariant-loop-i l = (keys : List Key) → AreCounted keys l.initial.self → AreCounted (keys ++ map (key_of l.first_field) (take l.i l.records)) l.self
