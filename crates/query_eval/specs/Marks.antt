-- Queries that are asked as records arrive (vsl-query(7), "Query Expressions"). The level of a transaction is known only once its group
-- is, so its marks leave the level aside (this project's choice).
use Rattle.std.specs.Prelude.{Bool, false, ◌||◌, List, [], ◌∷◌, map}
use Rattle.std.specs.List.{list_any}
use Rattle.vsl_record.specs.declared.record_type.Record.{Record}
use Rattle.txn_rows.specs.declared.group.Member.{Member}
use Rattle.query_grammar.specs.declared.step.StepOver.{StepOver}
use Rattle.query_grammar.specs.declared.step.StepOver.TheVariants as kinds
use Rattle.query_grammar.specs.Tree.{truths_of}
use Rattle.query_parser.specs.declared.test.Test.{Test}
use Rattle.query_parser.specs.declared.query.Query.{Query}
use Rattle.query_eval.specs.Meaning.{record_marks, member_satisfies, last_truth}

-- the tests among steps, in order
abbrev pub tests_in : {A : Type 0} → List (StepOver A) → List A
tests_in [] = []
tests_in (kinds.Test t ∷ steps) = t ∷ tests_in steps
tests_in (kinds.Not ∷ steps) = tests_in steps
tests_in (kinds.And ∷ steps) = tests_in steps
tests_in (kinds.Or ∷ steps) = tests_in steps

-- the tests of a query, in order; where queries are joined by `or`, those of the first, and then those of the second
abbrev pub tests_of : Query → List Test
tests_of query = tests_in query.steps.items

-- the marks of records: for each test of a query, whether one of the records satisfies it, its level left aside
abbrev pub marks_of : Query → List Record → List Bool
marks_of query records = map (λ test. list_any (record_marks test) records) (tests_of query)

-- the answer of members: for each test of a query, whether one of the members satisfies it
abbrev pub answer_of : Query → List Member → List Bool
answer_of query members = map (λ test. list_any (member_satisfies test) members) (tests_of query)

-- steps with truths in the place of their tests, in order; a test without a truth is false
abbrev pub with_truths : {A : Type 0} → List (StepOver A) → List Bool → List (StepOver Bool)
with_truths [] truths = []
with_truths (kinds.Test t ∷ steps) [] = kinds.Test false ∷ with_truths steps []
with_truths (kinds.Test t ∷ steps) (truth ∷ truths) = kinds.Test truth ∷ with_truths steps truths
with_truths (kinds.Not ∷ steps) truths = kinds.Not ∷ with_truths steps truths
with_truths (kinds.And ∷ steps) truths = kinds.And ∷ with_truths steps truths
with_truths (kinds.Or ∷ steps) truths = kinds.Or ∷ with_truths steps truths

-- the last of the truths that steps of truths leave
abbrev pub truth_of : List (StepOver Bool) → Bool
truth_of steps = last_truth (truths_of (λ truth. truth) steps [])

-- a query holds where its tests have these truths
abbrev pub is_held_by : Query → List Bool → Bool
is_held_by query truths = query.always || truth_of (with_truths query.steps.items truths)
