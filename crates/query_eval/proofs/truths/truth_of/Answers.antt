use Rattle.query_eval.proofs.TruthLemmas.{all_taken}
use Rattle.query_eval.proofs.truths.truth_of.Goals as goal

-- no step is left, and the truths are those that all leave
pub returns : goal.returns
returns c = all_taken _ _ _ (rw c.in_default.ensures.none at c.steps.invariant.left)
