use Rattle.std.proofs.Common.{refl}
use Rattle.query_grammar.proofs.Postfix.{one_truth}
use Rattle.query_eval.specs.Meaning.{group_satisfies}
use Rattle.query_eval.proofs.laws.queries_of_trees.Goals as goal

-- the steps of the tree leave its truth alone
pub returns : goal.returns
returns c = record {
  tree = λ query t group h. rw (h.asks, h.steps, one_truth (group_satisfies group) t) refl;
}
