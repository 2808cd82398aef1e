-- the records so far were added
use Rattle.std.proofs.Common.{◌≡◌, ◌++◌, take}
use Rattle.vsl_record.proofs.records.Records.append.Given as goal

abbrev pub invariant-loop-i : goal.invariant-loop-i
invariant-loop-i l = l.self ≡ l.fn.self ++ take l.i l.more
