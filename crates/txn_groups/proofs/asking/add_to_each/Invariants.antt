use Rattle.std.proofs.Common.{◌≡◌, List, map}
use Rattle.vsl_record.specs.declared.record_type.Record.{Record}
use Rattle.query_eval.specs.Asker.{asker_query}
use Rattle.txn_groups.specs.inside.Marked.{marks_for}
use Rattle.txn_groups.proofs.AskersLemmas.{marked_to}
use Rattle.txn_groups.proofs.asking.add_to_each.Given as goal

-- the queries are the same, and what comes was added for those before the index
abbrev pub invariant-loop-i : goal.invariant-loop-i
invariant-loop-i g l = record {
  same : map asker_query l.askers ≡ map asker_query l.initial.askers;
  marks : (records : List Record) → l.initial.marks.items ≡ marks_for (map asker_query l.initial.askers) records → l.marks.items ≡ marked_to l.i (map asker_query l.initial.askers) records (g.M.Marking.records l.marking);
}
