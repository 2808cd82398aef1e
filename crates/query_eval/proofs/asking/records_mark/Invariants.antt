use Rattle.std.proofs.Common.{◌≡◌, ◌-◌, false, length, take}
use Rattle.std.specs.List.{list_any}
use Rattle.query_eval.specs.Meaning.{record_marks}
use Rattle.query_eval.specs.Asking.{IsReady}
use Rattle.query_eval.proofs.asking.records_mark.Given as goal

-- none of the records before the place satisfies the test, and what asks its pattern is that of the test
abbrev pub invariant-loop-at : goal.invariant-loop-at
invariant-loop-at l = record { unmet : list_any (record_marks l.test) (take l.at l.records) ≡ false; ready : IsReady l.test.check l.matching }

abbrev pub decreases-loop-at : goal.decreases-loop-at
decreases-loop-at l = length l.records - l.at
