use Rattle.std.proofs.Common.{◌≡◌, map, take}
use Rattle.query_eval.specs.Asker.{asker_query}
use Rattle.txn_groups.proofs.askers.Askers.new.Given as goal

-- those before the index are asked
abbrev pub invariant-loop-i : goal.invariant-loop-i
invariant-loop-i l = map asker_query l.all.items ≡ take l.i l.queries
