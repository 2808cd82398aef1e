use Rattle.std.proofs.Common.{◌≡◌, map, take}
use Rattle.query_eval.specs.Meaning.{group_satisfies}
use Rattle.query_eval.proofs.asker.ask_all.Given as goal

-- the tests are the same, and those before the index have been asked
abbrev pub invariant-loop-asked : goal.invariant-loop-asked
invariant-loop-asked l = record {
  tests : map (λ a. a.test.now) l.all ≡ map (λ a. a.test.now) l.initial.all;
  truths : l.truths.items ≡ take l.asked-index (map (group_satisfies l.group) (map (λ a. a.test.now) l.initial.all));
}
