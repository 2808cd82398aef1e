-- The steps of a query (vsl-query(7), "Query Expressions"): its tests and operators, each operator behind its operands.
use Rattle.std.specs.Prelude.{ℕ, List}
use Rattle.query_grammar.specs.Step.{Step}
use Rattle.query_grammar.specs.declared.step.StepOver.TheVariants as steps
use Rattle.query_grammar.specs.Grammar.{Written}
use Rattle.query_grammar.specs.Tree.{tree_of, tree_steps}

-- the step of a test
abbrev pub test_step : List ℕ → List ℕ → List ℕ → Step
test_step criterion operator operand = steps.Test (record { criterion = criterion; operator = operator; operand = operand })

-- the steps of a query as it is written
abbrev pub steps_of : Written → List Step
steps_of q = tree_steps (tree_of q)
