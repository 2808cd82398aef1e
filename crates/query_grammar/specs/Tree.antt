-- A query's tree, which parentheses are not part of (vsl-query(7), "Query Expressions").
use Rattle.std.specs.Prelude.{Bool, not, ◌&&◌, ◌||◌, List, [], ◌∷◌, ◌++◌}
use Rattle.query_grammar.specs.declared.step.StepOver.{StepOver}
use Rattle.query_grammar.specs.Step.{TestParts}
use Rattle.query_grammar.specs.declared.step.StepOver.TheVariants as steps
use Rattle.query_grammar.specs.Grammar.{Written, Test, Compared, Not, Inside, And, Or}

-- a query over tests of this kind: a test, or queries that are joined
pub data Query (A : Type 0) : Type 0 where
  Single : A → Query A
  Negated : Query A → Query A
  Both : Query A → Query A → Query A
  Either : Query A → Query A → Query A

-- the tree of a query as it is written
abbrev pub tree_of : Written → Query TestParts
tree_of (Test criterion) = Single (record { criterion = criterion; operator = []; operand = [] })
tree_of (Compared criterion operator operand) = Single (record { criterion = criterion; operator = operator; operand = operand })
tree_of (Not q) = Negated (tree_of q)
tree_of (Inside q) = tree_of q
tree_of (And p q) = Both (tree_of p) (tree_of q)
tree_of (Or p q) = Either (tree_of p) (tree_of q)

-- the steps of a query: its tests and operators, each operator behind its operands. A tree of boxes would need
-- recursion to be read, asked and dropped; a list of steps has one tree, and leaves the truth of it (this project's
-- choice)
abbrev pub tree_steps : {A : Type 0} → Query A → List (StepOver A)
tree_steps (Single t) = steps.Test t ∷ []
tree_steps (Negated q) = tree_steps q ++ steps.Not ∷ []
tree_steps (Both p q) = tree_steps p ++ tree_steps q ++ steps.And ∷ []
tree_steps (Either p q) = tree_steps p ++ tree_steps q ++ steps.Or ∷ []

-- whether a query is true, where each test has this truth
abbrev pub is_true : {A : Type 0} → (A → Bool) → Query A → Bool
is_true test (Single t) = test t
is_true test (Negated q) = not (is_true test q)
is_true test (Both p q) = is_true test p && is_true test q
is_true test (Either p q) = is_true test p || is_true test q

-- the truths that a step leaves, the last first; an operator takes those of its operands
abbrev pub truths_after : {A : Type 0} → (A → Bool) → StepOver A → List Bool → List Bool
truths_after test (steps.Test t) all = test t ∷ all
truths_after test steps.Not (b ∷ all) = not b ∷ all
truths_after test steps.And (b ∷ a ∷ all) = (a && b) ∷ all
truths_after test steps.Or (b ∷ a ∷ all) = (a || b) ∷ all
truths_after _ _ _ = []

-- the truths that steps leave
unfoldable pub truths_of : {A : Type 0} → (A → Bool) → List (StepOver A) → List Bool → List Bool
truths_of test [] all = all
truths_of test (s ∷ more) all = truths_of test more (truths_after test s all)
