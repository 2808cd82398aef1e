use Rattle.query_grammar.proofs.Postfix.{same_tree, one_truth}
use Rattle.query_grammar.proofs.laws.steps_of_trees.Goals as goal

pub returns-clause-one_tree : goal.returns-clause-one_tree
returns-clause-one_tree c = λ p q e. same_tree p q e

pub returns-clause-truth : goal.returns-clause-truth
returns-clause-truth c = λ test q. one_truth test q
