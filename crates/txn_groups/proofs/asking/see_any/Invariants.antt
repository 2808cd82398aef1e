use Rattle.std.proofs.Common.{◌≡◌, ◌++◌, List, map, take}
use Rattle.vsl_record.specs.declared.record_type.Record.{Record}
use Rattle.query_eval.specs.Asker.{asker_query}
use Rattle.txn_groups.specs.inside.Marked.{marks_for}
use Rattle.txn_groups.proofs.asking.see_any.Given as goal

-- the queries are the same, and no test of those before the index is satisfied
abbrev pub invariant-loop-i : goal.invariant-loop-i
invariant-loop-i g l = record {
  same : map asker_query l.askers ≡ map asker_query l.initial.askers;
  unseen : (records : List Record) → marks_for (take l.i (map asker_query l.initial.askers)) (records ++ g.M.Marking.records l.marking) ≡ marks_for (take l.i (map asker_query l.initial.askers)) records;
}
