use Rattle.std.proofs.Common.{◌≡◌, ◌≤◌, length}
use Rattle.query_eval.specs.Marks.{tests_in}
use Rattle.query_eval.proofs.tests.first_test.Given as goal

-- no test was passed over
abbrev pub invariant-left : goal.invariant-left
invariant-left l = record { tests : tests_in l.left ≡ tests_in l.steps; within : length l.left ≤ length l.steps }

abbrev pub decreases-left : goal.decreases-left
decreases-left l = length l.left
