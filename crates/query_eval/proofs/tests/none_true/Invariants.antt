use Rattle.std.proofs.Common.{◌≡◌, ◌++◌, false, map, length}
use Rattle.query_eval.specs.Marks.{tests_in}
use Rattle.query_eval.proofs.tests.none_true.Given as goal

-- there is a truth for each of the tests before those that are left
abbrev pub invariant-left : goal.invariant-left
invariant-left l = l.truths.items ++ map (λ _. false) (tests_in l.left) ≡ map (λ _. false) (tests_in l.steps)

abbrev pub decreases-left : goal.decreases-left
decreases-left l = length l.left
