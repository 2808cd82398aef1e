use Rattle.std.proofs.Common.{◌≡◌, false, map, take}
use Rattle.std.specs.List.{list_any}
use Rattle.query_eval.specs.Meaning.{record_marks}
use Rattle.query_eval.proofs.asker.sees_any.Given as goal

-- the tests are the same, and of those before the index none is satisfied
abbrev pub invariant-loop-i : goal.invariant-loop-i
invariant-loop-i g l = record {
  tests : map (λ a. a.test.now) l.all ≡ map (λ a. a.test.now) l.initial.all;
  unseen : list_any (λ truth. truth) (take l.i (map (λ test. list_any (record_marks test) (g.M.Marking.records l.marking)) (map (λ a. a.test.now) l.initial.all))) ≡ false;
}
