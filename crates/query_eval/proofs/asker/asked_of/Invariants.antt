use Rattle.std.proofs.Common.{◌≡◌, ◌++◌, map, length}
use Rattle.query_eval.specs.Marks.{tests_in}
use Rattle.query_eval.proofs.asker.asked_of.Given as goal

-- the tests before those that are left have been taken up
abbrev pub invariant-left : goal.invariant-left
invariant-left l = map (λ a. a.test.now) l.all.items ++ tests_in l.left ≡ tests_in l.steps

abbrev pub decreases-left : goal.decreases-left
decreases-left l = length l.left
