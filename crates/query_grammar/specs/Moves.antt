-- Where each token of a line leads, and what is kept of those that were read (vsl-query(7), "Query Expressions").
use Rattle.std.specs.Prelude.{ℕ, ◌+◌, Bool, true, false, if◌then◌else◌, List, [], ◌∷◌, ◌++◌, Option, Some, None}
use Rattle.std.specs.List.{list_any}
use Rattle.query_grammar.specs.declared.mode.Mode.{Mode}
use Rattle.query_grammar.specs.declared.mode.Mode.TheVariants.{BeforeUnary, AfterCriterion, BeforeOperand, AfterUnary}
use Rattle.query_grammar.specs.declared.mode.Waiting.{Waiting}
use Rattle.query_grammar.specs.declared.mode.Waiting.TheVariants as waits
use Rattle.query_grammar.specs.declared.step.StepOver.{StepOver}
use Rattle.query_grammar.specs.Step.{Step}
use Rattle.query_grammar.specs.declared.step.StepOver.TheVariants as steps
use Rattle.query_grammar.specs.Grammar.{Token, CriterionToken, OperatorToken, OperandToken, NotWord, AndWord, OrWord, OpenMark, CloseMark}
use Rattle.query_grammar.specs.Steps.{test_step}

-- what is kept of the tokens that were read
pub record Kept : Type 0 where
  pub criterion : List ℕ
  pub operator : List ℕ
  pub waiting : List Waiting
  pub steps : List Step

-- what may stand next, and what is kept
abbrev pub State : Type 0
State = Mode × Kept

-- what waits counts toward the depth. A `not` is open until the unary behind it has ended (this project's choice)
abbrev pub is_open : Waiting → Bool
is_open waits.Open = true
is_open waits.Not = true
is_open waits.And = false
is_open waits.Or = false

-- how many parentheses and `not`s are open
abbrev pub open_count : List Waiting → ℕ
open_count [] = 0
open_count (w ∷ ws) = if is_open w then 1 + open_count ws else open_count ws

-- what waits is a parenthesis
abbrev pub is_mark : Waiting → Bool
is_mark waits.Open = true
is_mark _ = false

-- whether a parenthesis is open
abbrev pub can_close : List Waiting → Bool
can_close ws = list_any is_mark ws

-- the `not`s and the `and` before a unary end with it
abbrev pub tightened : {A : Type 0} → List Waiting → List (StepOver A) → List Waiting × List (StepOver A)
tightened [] done = ([], done)
tightened (waits.Not ∷ ws) done = tightened ws (done ++ steps.Not ∷ [])
tightened (waits.And ∷ ws) done = tightened ws (done ++ steps.And ∷ [])
tightened (waits.Or ∷ ws) done = (waits.Or ∷ ws, done)
tightened (waits.Open ∷ ws) done = (waits.Open ∷ ws, done)

-- all that waits up to an open parenthesis ends with it
abbrev pub loosened : {A : Type 0} → List Waiting → List (StepOver A) → List Waiting × List (StepOver A)
loosened [] done = ([], done)
loosened (waits.Not ∷ ws) done = loosened ws (done ++ steps.Not ∷ [])
loosened (waits.And ∷ ws) done = loosened ws (done ++ steps.And ∷ [])
loosened (waits.Or ∷ ws) done = loosened ws (done ++ steps.Or ∷ [])
loosened (waits.Open ∷ ws) done = (waits.Open ∷ ws, done)

-- behind a unary
abbrev pub rested : List Waiting × List Step → State
rested x = (AfterUnary, record { criterion = []; operator = []; waiting = x.0; steps = x.1 })

-- before a unary
abbrev pub waits_for : Waiting → List Waiting × List Step → State
waits_for w x = (BeforeUnary, record { criterion = []; operator = []; waiting = w ∷ x.0; steps = x.1 })

-- behind a test with this operand, or with none
abbrev pub tested : Kept → List ℕ → State
tested k operand = rested (tightened k.waiting (k.steps ++ test_step k.criterion k.operator operand ∷ []))

-- ---- tokens

-- behind a parenthesis that closes, where one is open
abbrev pub closes : List Waiting × List Step → Option State
closes ((waits.Open ∷ ws), done) = Some (rested (tightened ws done))
closes _ = None

-- a token, where it may stand
abbrev pub taken_after_unary : Kept → Token → Option State
taken_after_unary k AndWord = Some (waits_for waits.And (k.waiting, k.steps))
taken_after_unary k OrWord = Some (waits_for waits.Or (loosened k.waiting k.steps))
taken_after_unary k CloseMark = closes (loosened k.waiting k.steps)
taken_after_unary _ _ = None

-- a token where a unary may stand
abbrev pub taken_before_unary : Kept → Token → Option State
taken_before_unary k (CriterionToken w) = Some (AfterCriterion, record k { criterion = w })
taken_before_unary k NotWord = Some (waits_for waits.Not (k.waiting, k.steps))
taken_before_unary k OpenMark = Some (waits_for waits.Open (k.waiting, k.steps))
taken_before_unary _ _ = None

-- a token behind a criterion
abbrev pub taken_after_criterion : Kept → Token → Option State
taken_after_criterion k (OperatorToken w) = Some (BeforeOperand, record k { operator = w })
taken_after_criterion k AndWord = taken_after_unary (tested k []).1 AndWord
taken_after_criterion k OrWord = taken_after_unary (tested k []).1 OrWord
taken_after_criterion k CloseMark = taken_after_unary (tested k []).1 CloseMark
taken_after_criterion _ _ = None

-- a token where an operand stands
abbrev pub taken_before_operand : Kept → Token → Option State
taken_before_operand k (OperandToken w) = Some (tested k w)
taken_before_operand _ _ = None

-- where a token leads, if it may stand here
abbrev pub taken : Mode → Kept → Token → Option State
taken BeforeUnary k t = taken_before_unary k t
taken AfterCriterion k t = taken_after_criterion k t
taken BeforeOperand k t = taken_before_operand k t
taken AfterUnary k t = taken_after_unary k t

-- nothing is left open
abbrev pub all_closed : {A : Type 0} → List Waiting × List (StepOver A) → Option (List (StepOver A))
all_closed ([], done) = Some done
all_closed ((w ∷ ws), done) = None

-- the line's end, where it may stand
abbrev pub last : Mode → Kept → Option (List Step)
last AfterCriterion k = let x = (tested k []).1 in all_closed (loosened x.waiting x.steps)
last AfterUnary k = all_closed (loosened k.waiting k.steps)
last _ _ = None

-- nothing is kept
abbrev pub start : Kept
start = record { criterion = []; operator = []; waiting = []; steps = [] }
