use Rattle.std.proofs.Common.{◌≡◌, [], map, take}
use Rattle.query_eval.specs.Asker.{asker_query}
use Rattle.query_eval.specs.Marks.{marks_of}
use Rattle.txn_groups.proofs.asking.no_marks.Given as goal

-- those of the queries before the index were made
abbrev pub invariant-loop-i : goal.invariant-loop-i
invariant-loop-i l = l.all.items ≡ map (λ asker. marks_of (asker_query asker) []) (take l.i l.askers)
