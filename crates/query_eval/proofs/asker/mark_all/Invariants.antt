use Rattle.std.proofs.Common.{◌≡◌, length, map}
use Rattle.std.specs.List.{list_any}
use Rattle.query_eval.specs.Meaning.{record_marks}
use Rattle.query_eval.specs.inside.Truths.{joined, joined_from}
use Rattle.query_eval.proofs.asker.mark_all.Given as goal

-- the tests are the same, and those from the index on are still to be asked
abbrev pub invariant-loop-i : goal.invariant-loop-i
invariant-loop-i g l = record {
  tests : map (λ a. a.test.now) l.all ≡ map (λ a. a.test.now) l.initial.all;
  within : length l.marks ≡ length l.initial.marks;
  marks : joined_from l.i l.marks (map (λ test. list_any (record_marks test) (g.M.Marking.records l.marking)) (map (λ a. a.test.now) l.initial.all)) ≡ joined l.initial.marks (map (λ test. list_any (record_marks test) (g.M.Marking.records l.marking)) (map (λ a. a.test.now) l.initial.all));
}
