-- What the code's values are in the words of the reading.
use Rattle.std.specs.Prelude.{◌≡◌, ℕ, Bool, true, false, List, [], Option, Some, None}
use Rattle.std.specs.Global.{Vec}
use Rattle.query_grammar.specs.declared.mode.Mode.{Mode}
use Rattle.query_grammar.specs.declared.mode.Mode.TheVariants.{BeforeUnary, AfterCriterion, BeforeOperand, AfterUnary}
use Rattle.query_grammar.specs.declared.mode.Waiting.{Waiting}
use Rattle.query_grammar.specs.declared.step.StepOver.{StepOver}
use Rattle.query_grammar.specs.declared.lex.Lex.TheVariants.{Begin}
use Rattle.query_grammar.specs.Step.{Step}
use Rattle.query_grammar.specs.Lexical.{whole_from}
use Rattle.query_grammar.specs.Grammar.{Token, CriterionToken, NotWord, AndWord, OrWord, OpenMark, CloseMark}
use Rattle.query_grammar.specs.Moves.{Kept, State}
use Rattle.query_grammar.specs.Scanner.{Spot}
use Rattle.query_parser.specs.declared.test.Test.{Test}
use Rattle.query_parser.specs.declared.draft.Stage.{Stage}
use Rattle.query_parser.specs.declared.draft.Stage.TheVariants as stages
use Rattle.query_parser.specs.declared.draft.Draft.{Draft}
use Rattle.query_parser.specs.declared.token.Join.{Join}
use Rattle.query_parser.specs.declared.token.Join.TheVariants as joins
use Rattle.query_parser.specs.declared.token.Unary.{Unary}
use Rattle.query_parser.specs.declared.token.Unary.TheVariants as unaries
use Rattle.query_parser.specs.Operators.{operator_text}

-- what waits, and the steps
abbrev pub both_of : List Waiting × Vec (StepOver Test) → List Waiting × List (StepOver Test)
both_of x = (x.0, x.1.items)

-- behind a criterion, or else behind a unary
abbrev pub mark_mode : Bool → Mode
mark_mode true = AfterCriterion
mark_mode false = AfterUnary

-- the token behind a unary
abbrev pub join_token : Option Join → Option Token
join_token None = None
join_token (Some joins.And) = Some AndWord
join_token (Some joins.Or) = Some OrWord
join_token (Some joins.Close) = Some CloseMark

-- the token where a unary begins, of these bytes
abbrev pub unary_token : List ℕ → Option Unary → Option Token
unary_token w None = None
unary_token w (Some unaries.Open) = Some OpenMark
unary_token w (Some unaries.Not) = Some NotWord
unary_token w (Some unaries.Criterion) = Some (CriterionToken w)

-- what may stand next
abbrev pub mode_of : Stage → Mode
mode_of stages.Unary = BeforeUnary
mode_of (stages.Operator criterion) = AfterCriterion
mode_of (stages.Operand criterion operator) = BeforeOperand
mode_of stages.Join = AfterUnary

-- the criterion of the test that has begun
abbrev pub criterion_of : Stage → List ℕ
criterion_of stages.Unary = []
criterion_of (stages.Operator criterion) = criterion.now
criterion_of (stages.Operand criterion operator) = criterion.now
criterion_of stages.Join = []

-- the operator of the test that has begun
abbrev pub operator_of : Stage → List ℕ
operator_of stages.Unary = []
operator_of (stages.Operator criterion) = []
operator_of (stages.Operand criterion operator) = operator_text operator
operator_of stages.Join = []

-- the criterion of the test that has begun is whole
abbrev pub HasWhole : Stage → Type 0
HasWhole stages.Unary = Unit {0}
HasWhole (stages.Operator criterion) = whole_from Begin criterion.now ≡ true
HasWhole (stages.Operand criterion operator) = whole_from Begin criterion.now ≡ true
HasWhole stages.Join = Unit {0}

-- what is kept, where these are the steps as they are written
abbrev pub kept_of : Draft → List Step → Kept
kept_of d written = record { criterion = criterion_of d.stage; operator = operator_of d.stage; waiting = d.waiting; steps = written }

-- where the reading is, where these are the steps as they are written, and these bytes of a token were read
abbrev pub spot_of : Draft → List Step → List ℕ → Spot
spot_of d written word = record { mode = mode_of d.stage; kept = kept_of d written; place = d.place; word = word }

-- a state, where the test began here
abbrev pub at_spot : State → ℕ → Spot
at_spot x place = record { mode = x.0; kept = x.1; place = place; word = [] }
