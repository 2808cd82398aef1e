use Rattle.std.proofs.Common.{◌≡◌, map, take}
use Rattle.query_eval.specs.Asker.{asker_query}
use Rattle.query_eval.specs.Meaning.{is_held}
use Rattle.txn_groups.proofs.asking.ask_each.Given as goal

-- the queries are the same, and those before the index were asked
abbrev pub invariant-loop-i : goal.invariant-loop-i
invariant-loop-i l = record {
  same : map asker_query l.askers ≡ map asker_query l.initial.askers;
  truths : l.truths ≡ take l.i (map (λ query. is_held query l.group) (map asker_query l.initial.askers));
}
