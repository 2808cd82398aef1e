-- A step of a query as it is written (vsl-query(7), "Query Expressions"): a test, or an operator behind its operands.
use Rattle.std.specs.Prelude.{ℕ, List}
use Rattle.query_grammar.specs.declared.step.StepOver.{StepOver}

-- a test as it is written: its criterion, and the operator and operand, which are empty where it has none
pub record TestParts : Type 0 where
  pub criterion : List ℕ
  pub operator : List ℕ
  pub operand : List ℕ

-- a step of a query as it is written
abbrev pub Step : Type 0
Step = StepOver TestParts
