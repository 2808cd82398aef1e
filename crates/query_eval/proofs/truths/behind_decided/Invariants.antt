use Rattle.std.proofs.Common.{◌≡◌, ◌+◌, ◌≤◌, length}
use Rattle.query_eval.specs.inside.Truths.{behind_decided}
use Rattle.query_eval.proofs.truths.behind_decided.Given as goal

-- the operator is among the steps that are left, and at most one truth was left for each of the others
abbrev pub invariant-steps : goal.invariant-steps
invariant-steps l = record { room : l.above + length l.steps ≤ l._most; same : behind_decided l.truth l.above l.steps ≡ behind_decided l.truth 0 l.initial.steps }

abbrev pub decreases-steps : goal.decreases-steps
decreases-steps l = length l.steps
