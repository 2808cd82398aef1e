-- Reading a line token by token, with the first fault (where it stands is this project's choice). What a query is stands in
-- `Grammar`; this is the tool of its proof.
use Rattle.std.specs.Prelude.{◌≡◌, ℕ, ◌+◌, ◌-◌, Bool, ◌&&◌, ◌||◌, not, if◌then◌else◌, List, [], ◌∷◌, ◌++◌, length, Result, Ok, Err, Option, Some, None, codes}
use Rattle.std.specs.Str.{bytes_eq}
use Rattle.query_grammar.specs.declared.mode.Mode.{Mode}
use Rattle.query_grammar.specs.declared.mode.Mode.TheVariants.{BeforeUnary, AfterCriterion, BeforeOperand, AfterUnary}
use Rattle.query_grammar.specs.Step.{Step}
use Rattle.query_grammar.specs.declared.lex.Lex.TheVariants.{Begin}
use Rattle.query_grammar.specs.Bytes.{is_blank}
use Rattle.query_grammar.specs.Lexical.{operand_begin, begins_from, whole_from, is_one_of, begins_one_of, operators, words, ends_word}
use Rattle.query_grammar.specs.Grammar.{Token, CriterionToken, OperatorToken, OperandToken, NotWord, AndWord, OrWord, OpenMark, CloseMark, operator_words}
use Rattle.query_grammar.specs.Moves.{Kept, State, can_close, taken, last, start}

-- why a query's text is refused, and the byte
pub data Fault : Type 0 where
  Syntax : ℕ → Fault
  UnknownTag : ℕ → Fault
  Number : ℕ → Fault
  Pattern : ℕ → Fault
  Deep : ℕ → Fault

-- goes on where there is no fault
infixl 10 ◌>>=◌
abbrev pub ◌>>=◌ : {A B : Type 0} → Result A Fault → (A → Result B Fault) → Result B Fault
(Ok x) >>= f = f x
(Err e) >>= f = Err e

-- the words that join queries
abbrev pub joining : List (List ℕ)
joining = codes "and" ∷ codes "or" ∷ []

-- bytes begin what may stand behind a unary
abbrev pub begins_after_unary : Kept → List ℕ → Bool
begins_after_unary k w = begins_one_of joining w || (bytes_eq w (codes ")") && can_close k.waiting)

-- whether bytes begin a token that may stand here
abbrev pub begins : Mode → Kept → List ℕ → Bool
begins BeforeUnary k w = bytes_eq w (codes "(") || begins_from Begin w
begins AfterCriterion k w = begins_one_of operators w || begins_after_unary k w
begins BeforeOperand k w = begins_from operand_begin w
begins AfterUnary k w = begins_after_unary k w

-- the token that bytes are behind a unary
abbrev pub whole_after_unary : List ℕ → List ℕ → Option Token
whole_after_unary w rest =
    if bytes_eq w (codes ")") then Some CloseMark else (
    if bytes_eq w (codes "and") && ends_word rest then Some AndWord else (
    if bytes_eq w (codes "or") && ends_word rest then Some OrWord else None))

-- the token that bytes are, before these bytes
abbrev pub whole : Mode → List ℕ → List ℕ → Option Token
whole BeforeUnary w rest =
    if bytes_eq w (codes "(") then Some OpenMark else (
    if bytes_eq w (codes "not") && ends_word rest then Some NotWord else (
    if is_one_of words w && ends_word rest then None else (
    if whole_from Begin w then Some (CriterionToken w) else None)))
whole AfterCriterion w rest = if is_one_of operators w && (not (is_one_of operator_words w) || ends_word rest) then Some (OperatorToken w) else whole_after_unary w rest
whole BeforeOperand w rest = if whole_from operand_begin w then Some (OperandToken w) else None
whole AfterUnary w rest = whole_after_unary w rest

-- faults beside those of syntax: of a token that begins at a place, in a test that begins at a place, and of a test that is cut off
pub record Rules : Type 0 where
  pub fault : ℕ → ℕ → Mode → Kept → Token → Option Fault
  pub cut : ℕ → ℕ → Mode → Kept → List ℕ → Option Fault

-- the rules of the grammar alone
abbrev pub free : Rules
free = record { fault = λ at place m k t. None; cut = λ at place m k w. None }

-- a fault, or that of syntax
abbrev pub or_syntax : ℕ → Option Fault → Fault
or_syntax at None = Syntax at
or_syntax at (Some f) = f

-- a result, unless there is a fault
abbrev pub unless_fault : {A : Type 0} → Option Fault → A → Result A Fault
unless_fault None x = Ok x
unless_fault (Some f) x = Err f

-- what is known at a byte: what may stand next, what is kept, where the test began, and the bytes of a token that has begun
pub record Spot : Type 0 where
  pub mode : Mode
  pub kept : Kept
  pub place : ℕ
  pub word : List ℕ

-- the fault of a byte at which nothing goes on
abbrev pub refused : {A : Type 0} → Rules → ℕ → Spot → Result A Fault
refused rules at s = Err (or_syntax at (rules.cut at s.place s.mode s.kept s.word))

-- where the test began to which the token belongs
abbrev pub place_after : Mode → ℕ → ℕ → ℕ
place_after BeforeUnary at place = at
place_after AfterCriterion at place = place
place_after BeforeOperand at place = place
place_after AfterUnary at place = place

-- a token has ended
abbrev pub token_taken : Rules → ℕ → Spot → Token → Option State → Result Spot Fault
token_taken rules at s t None = refused rules at s
token_taken rules at s t (Some x) =
    let from = at - length s.word in
    unless_fault (rules.fault from s.place s.mode s.kept t) (record { mode = x.0; kept = x.1; place = place_after s.mode from s.place; word = [] })

-- a token has ended, if the bytes are one
abbrev pub token_done : Rules → ℕ → Spot → Option Token → Result Spot Fault
token_done rules at s None = refused rules at s
token_done rules at s (Some t) = token_taken rules at s t (taken s.mode s.kept t)

-- a byte where no token has begun
abbrev pub fresh : Rules → ℕ → Spot → ℕ → Result Spot Fault
fresh rules at s c =
    if begins s.mode s.kept (c ∷ []) then Ok (record s { word = c ∷ [] }) else (
    if is_blank c then Ok (record s { word = [] }) else refused rules at s)

-- a byte
abbrev pub step_in : Rules → ℕ → Spot → List ℕ → ℕ → Result Spot Fault
step_in rules at s [] c = fresh rules at s c
step_in rules at s (d ∷ w) c =
    if begins s.mode s.kept ((d ∷ w) ++ c ∷ []) then Ok (record s { word = (d ∷ w) ++ c ∷ [] }) else
    (token_done rules at s (whole s.mode (d ∷ w) (c ∷ [])) >>= λ x. fresh rules at x c)

-- one byte more
abbrev pub step : Rules → ℕ → Spot → ℕ → Result Spot Fault
step rules at s c = step_in rules at s s.word c

-- the end of the line, if it may stand here
abbrev pub last_done : Rules → ℕ → Spot → Option (List Step) → Result (List Step) Fault
last_done rules at s None = refused rules at s
last_done rules at s (Some out) = unless_fault (rules.fault at s.place s.mode s.kept CloseMark) out

-- the end of the line, behind these bytes of a token
abbrev pub finish_in : Rules → ℕ → Spot → List ℕ → Result (List Step) Fault
finish_in rules at s [] = last_done rules at s (last s.mode s.kept)
finish_in rules at s (d ∷ w) = token_done rules at s (whole s.mode (d ∷ w) []) >>= λ x. last_done rules at x (last x.mode x.kept)

-- a line's steps, or its first fault, read from a place on
unfoldable pub run : Rules → ℕ → Spot → List ℕ → Result (List Step) Fault
run rules at s [] = finish_in rules at s s.word
run rules at s (c ∷ text) = step rules at s c >>= λ x. run rules (at + 1) x text

-- the beginning of a line
abbrev pub begin : Spot
begin = record { mode = BeforeUnary; kept = start; place = 0; word = [] }

-- the rules have no fault of syntax
pub record AreRules (rules : Rules) : Type 0 where
  pub fault : (from place : ℕ) (m : Mode) (k : Kept) (t : Token) (at : ℕ) → rules.fault from place m k t ≡ Some (Syntax at) → ⊥
  pub cut : (here place : ℕ) (m : Mode) (k : Kept) (w : List ℕ) (at : ℕ) → rules.cut here place m k w ≡ Some (Syntax at) → ⊥
