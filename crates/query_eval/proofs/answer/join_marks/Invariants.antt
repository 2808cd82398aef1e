use Rattle.std.proofs.Common.{◌≡◌, drop, length}
use Rattle.query_eval.specs.Marks.{tests_in}
use Rattle.query_eval.specs.inside.Truths.{joined, joined_from, marked_of}
use Rattle.query_eval.proofs.answer.join_marks.Given as goal

-- the tests from the index on are left, and the marks of these are still to be joined
abbrev pub invariant-loop-i : goal.invariant-loop-i
invariant-loop-i l = record {
  within : length l.truths ≡ length l.initial.truths;
  tests : tests_in l.left ≡ drop l.i (tests_in l.steps);
  truths : joined_from l.i l.truths (marked_of l.level (tests_in l.steps) l.marks) ≡ joined l.initial.truths (marked_of l.level (tests_in l.steps) l.marks);
}
