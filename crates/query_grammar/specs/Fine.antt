-- Queries without a fault beside those of syntax (vsl-query(7); the ranges of numbers are this project's choice).
use Rattle.std.specs.Prelude.{◌≡◌, ℕ, ◌+◌, ◌<◌, Bool, List, Some, None}
use Rattle.query_grammar.specs.Grammar.{Written, Test, Compared, Not, Inside, And, Or, IsQuery}
use Rattle.query_grammar.specs.Judging.{criterion_fault, operand_fault}
use Rattle.query_grammar.specs.Lines.{AreQueries, lines_of}

-- the names of its tests are tags, its numbers are in range, its patterns are good, and no more than so many parentheses and `not`s are open at once,
-- where so many are open before it
abbrev pub IsFine : (List ℕ → Bool) → (List ℕ → Bool) → (List ℕ → Bool) → ℕ → ℕ → Written → Type 0
IsFine is_tag is_decimal is_pattern most depth (Test c) = (place : ℕ) → criterion_fault is_tag place c ≡ None
IsFine is_tag is_decimal is_pattern most depth (Compared c operator w) = ((place : ℕ) → criterion_fault is_tag place c ≡ None) × ((place : ℕ) → operand_fault is_decimal is_pattern place operator w ≡ None)
IsFine is_tag is_decimal is_pattern most depth (Not q) = (depth < most) × IsFine is_tag is_decimal is_pattern most (1 + depth) q
IsFine is_tag is_decimal is_pattern most depth (Inside q) = (depth < most) × IsFine is_tag is_decimal is_pattern most (1 + depth) q
IsFine is_tag is_decimal is_pattern most depth (And p q) = IsFine is_tag is_decimal is_pattern most depth p × IsFine is_tag is_decimal is_pattern most depth q
IsFine is_tag is_decimal is_pattern most depth (Or p q) = IsFine is_tag is_decimal is_pattern most depth p × IsFine is_tag is_decimal is_pattern most depth q

-- the line is this query, which has no fault
abbrev pub IsFineQuery : (List ℕ → Bool) → (List ℕ → Bool) → (List ℕ → Bool) → ℕ → List ℕ → Written → Type 0
IsFineQuery is_tag is_decimal is_pattern most line q = IsQuery line q × IsFine is_tag is_decimal is_pattern most 0 q

-- the text is this query, and the query of each line has no fault; how many are open counts anew in each line
abbrev pub IsFineText : (List ℕ → Bool) → (List ℕ → Bool) → (List ℕ → Bool) → ℕ → List ℕ → Written → Type 0
IsFineText is_tag is_decimal is_pattern most text q = AreQueries (IsFineQuery is_tag is_decimal is_pattern most) None (lines_of text) (Some q)
