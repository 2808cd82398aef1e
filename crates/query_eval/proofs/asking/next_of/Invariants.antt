use Rattle.std.proofs.Common.{◌≡◌, take}
use Rattle.std.specs.List.{list_any}
use Rattle.query_eval.specs.Meaning.{record_marks}
use Rattle.query_eval.proofs.asking.next_of.Given as goal

-- of the records passed over none satisfies the test
abbrev pub invariant-loop-i : goal.invariant-loop-i
invariant-loop-i l = list_any (record_marks l.test) (take l.i l.records) ≡ list_any (record_marks l.test) (take l.from l.records)
