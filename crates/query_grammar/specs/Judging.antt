-- The faults of a test beside those of syntax (this project's choice): its names first, and then its numbers by their places.
use Rattle.std.specs.Prelude.{ℕ, ◌+◌, ◌-◌, ◌*◌, Bool, true, false, ◌&&◌, ◌||◌, not, ◌==◌, nat_lt, if◌then◌else◌, List, [], ◌∷◌, ◌++◌, length, Option, Some, None, codes}
use Rattle.std.specs.Option.{option_or}
use Rattle.query_grammar.specs.declared.mode.Mode.{Mode}
use Rattle.query_grammar.specs.declared.mode.Mode.TheVariants.{BeforeUnary, AfterCriterion, BeforeOperand, AfterUnary}
use Rattle.query_grammar.specs.declared.lex.Lex.{Lex}
use Rattle.query_grammar.specs.declared.lex.Lex.TheVariants.{Begin, FieldOpen}
use Rattle.query_grammar.specs.Bytes.{is_digit, is_name_byte}
use Rattle.query_grammar.specs.Lexical.{lex, is_one_of, words}
use Rattle.query_grammar.specs.Criterion.{operand_meaning}
use Rattle.query_grammar.specs.Grammar.{Token, OperandToken, NotWord, AndWord, OrWord, OpenMark, CloseMark}
use Rattle.query_grammar.specs.Moves.{Kept, open_count}
use Rattle.query_grammar.specs.Scanner.{Fault, UnknownTag, Number, Pattern, Deep, Rules}

-- a name and its place, where one is
abbrev pub name_fault : (List ℕ → Bool) → ℕ → List ℕ → Option Fault
name_fault is_tag at [] = None
name_fault is_tag at (c ∷ name) = if is_tag (c ∷ name) then None else Some (UnknownTag at)

-- the names of a taglist, of which one has begun
abbrev pub names_fault : (List ℕ → Bool) → ℕ → ℕ → List ℕ → List ℕ → Option Fault
names_fault is_tag at from name [] = name_fault is_tag from name
names_fault is_tag at from name (c ∷ w) =
    if is_name_byte c then names_fault is_tag (at + 1) from (name ++ c ∷ []) w else
    option_or (name_fault is_tag from name) (if c == 44 then names_fault is_tag (at + 1) (at + 1) [] w else None)

-- behind the level
abbrev pub behind_level : (List ℕ → Bool) → ℕ → List ℕ → Option Fault
behind_level is_tag at [] = None
behind_level is_tag at (c ∷ w) = if c == 125 then names_fault is_tag (at + 1) (at + 1) [] w else behind_level is_tag (at + 1) w

-- the first fault of the names of a criterion
abbrev pub tags_fault : (List ℕ → Bool) → ℕ → List ℕ → Option Fault
tags_fault is_tag at [] = None
tags_fault is_tag at (c ∷ w) = if c == 123 then behind_level is_tag (at + 1) w else names_fault is_tag at at [] (c ∷ w)

-- the number at the beginning of bytes, cut off where it is too great to matter
abbrev pub number : ℕ → List ℕ → ℕ
number n [] = n
number n (c ∷ w) = if is_digit c then (if nat_lt 9999 n then n else number (10 * n + (c - 48)) w) else n

-- a level is at most 9,999
abbrev pub level_fault : ℕ → List ℕ → Option Fault
level_fault at [] = None
level_fault at (c ∷ w) = if (c == 123) && nat_lt 9999 (number 0 w) then Some (Number (at + 1)) else None

-- the field, which begins where its bracket leads
abbrev pub is_field_open : Option Lex → Bool
is_field_open (Some FieldOpen) = true
is_field_open _ = false

-- a field is 1 to 9,999
abbrev pub field_value : ℕ → List ℕ → Option Fault
field_value at [] = None
field_value at (c ∷ w) = if (number 0 (c ∷ w) == 0) || nat_lt 9999 (number 0 (c ∷ w)) then Some (Number at) else None

-- the fault of a criterion's field
abbrev pub field_fault : ℕ → Option Lex → List ℕ → Option Fault
field_fault at (Some l) (c ∷ w) = if is_field_open (lex l c) then field_value (at + 1) w else field_fault (at + 1) (lex l c) w
field_fault _ _ _ = None

-- a criterion, also one that is cut off. Its names come first, so that a wrong name is told, whatever else is wrong
-- with the test
abbrev pub criterion_fault : (List ℕ → Bool) → ℕ → List ℕ → Option Fault
criterion_fault is_tag at w = option_or (tags_fault is_tag at w) (option_or (level_fault at w) (field_fault at (Some Begin) w))

-- the operators that compare numbers
abbrev pub numeric_operators : List (List ℕ)
numeric_operators = codes "==" ∷ codes "!=" ∷ codes "<" ∷ codes "<=" ∷ codes ">" ∷ codes ">=" ∷ []

-- the operators that ask a pattern
abbrev pub pattern_operators : List (List ℕ)
pattern_operators = codes "~" ∷ codes "!~" ∷ []

-- a number is compared with a number, which may stand between quotes, and a pattern is a good one. Between quotes
-- nothing else may stand: `''` and `' 200'` are no numbers
abbrev pub operand_fault : (List ℕ → Bool) → (List ℕ → Bool) → ℕ → List ℕ → List ℕ → Option Fault
operand_fault is_decimal is_pattern at operator w =
    if is_one_of numeric_operators operator && not (is_decimal (operand_meaning w)) then Some (Number at) else (
    if is_one_of pattern_operators operator && not (is_pattern (operand_meaning w)) then Some (Pattern at) else None)

-- the rules: which names are tags, which texts are decimals, which are good patterns, and how many may be open at once
abbrev pub test_fault : (List ℕ → Bool) → (List ℕ → Bool) → (List ℕ → Bool) → ℕ → ℕ → ℕ → Mode → Kept → Token → Option Fault
test_fault is_tag is_decimal is_pattern most from place BeforeUnary k NotWord = if nat_lt (open_count k.waiting) most then None else Some (Deep from)
test_fault is_tag is_decimal is_pattern most from place BeforeUnary k OpenMark = if nat_lt (open_count k.waiting) most then None else Some (Deep from)
test_fault is_tag is_decimal is_pattern most from place AfterCriterion k AndWord = criterion_fault is_tag place k.criterion
test_fault is_tag is_decimal is_pattern most from place AfterCriterion k OrWord = criterion_fault is_tag place k.criterion
test_fault is_tag is_decimal is_pattern most from place AfterCriterion k CloseMark = criterion_fault is_tag place k.criterion
test_fault is_tag is_decimal is_pattern most from place BeforeOperand k (OperandToken w) = option_or (criterion_fault is_tag place k.criterion) (operand_fault is_decimal is_pattern from k.operator w)
test_fault is_tag is_decimal is_pattern most from place _ k _ = None

-- what is wrong with a test that is cut off. What was read of it counts: `End[0` has a wrong number, though nothing
-- closes it. An operand whose quote stays open isn't there, so in `End=="x` it isn't told that `x` is no number
abbrev pub cut_fault : (List ℕ → Bool) → ℕ → ℕ → Mode → Kept → List ℕ → Option Fault
cut_fault is_tag at place BeforeUnary k w = if is_one_of words w then None else criterion_fault is_tag (at - length w) w
cut_fault is_tag at place AfterCriterion k w = criterion_fault is_tag place k.criterion
cut_fault is_tag at place BeforeOperand k w = criterion_fault is_tag place k.criterion
cut_fault is_tag at place AfterUnary k w = None

-- the rules of the query language
abbrev pub rules_of : (List ℕ → Bool) → (List ℕ → Bool) → (List ℕ → Bool) → ℕ → Rules
rules_of is_tag is_decimal is_pattern most = record { fault = test_fault is_tag is_decimal is_pattern most; cut = cut_fault is_tag }
