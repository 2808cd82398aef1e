use Rattle.std.proofs.Common.{◌+◌, ◌≤◌, [], length}
use Rattle.query_grammar.specs.Tree.{truths_of}
use Rattle.query_eval.specs.inside.Truths.{AreLeft}
use Rattle.query_eval.proofs.truths.truth_of.Given as goal

-- the steps that were taken left these truths, at most one a step
abbrev pub invariant-steps : goal.invariant-steps
invariant-steps l = record { room : l.left.count + length l.steps ≤ l._most; left : AreLeft l.left.last l.left.count l.steps (truths_of (λ truth. truth) l.initial.steps []) }

abbrev pub decreases-steps : goal.decreases-steps
decreases-steps l = length l.steps
