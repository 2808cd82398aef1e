-- What stands where a query's text is at fault, and before it (vsl-query(7); what is a fault, and which comes first, is this
-- project's choice).
use Rattle.std.specs.Prelude.{◌≡◌, ℕ, ◌+◌, ◌⊎◌, Bool, true, false, List, [], ◌∷◌, ◌++◌, length, Option, None}
use Rattle.std.specs.List.{list_all}
use Rattle.query_grammar.specs.Bytes.{is_blank}
use Rattle.query_grammar.specs.Lexical.{operand_begin, begins_from, whole_from, is_one_of}
use Rattle.query_grammar.specs.Criterion.{operand_meaning}
use Rattle.query_grammar.specs.Grammar.{Token, NotWord, OpenMark, token_text, is_over, is_ended, Written, Test, IsDead}
use Rattle.query_grammar.specs.Scanner.{Fault, Syntax, UnknownTag, Number, Pattern, Deep}
use Rattle.query_grammar.specs.Judging.{numeric_operators, pattern_operators}
use Rattle.query_grammar.specs.Lines.{is_passed, AreQueries, lines_of}
use Rattle.query_grammar.specs.Fine.{IsFine}
use Rattle.query_grammar.specs.Faulty.{UnknownName}
use Rattle.query_grammar.specs.Tested.{Language, Fine, TestMayFollow, TestIn, WrongNumber}
use Rattle.query_grammar.specs.Before.{NoneBefore}

-- a test is at fault at a byte of its criterion
pub record InCriterion (l : Language) (Wrong : List ℕ → ℕ → Type 0) (from : ℕ) (read back : List ℕ) (at : ℕ) : Type 0 where
  pub criterion : List ℕ
  pub behind : List ℕ
  pub place : ℕ
  pub byte : ℕ
  pub test : TestIn l from read back criterion behind place
  pub there : at ≡ place + byte
  pub wrong : Wrong criterion byte

-- what was read ends with a comparison whose criterion has no fault, and what its operand stands for isn't as these
-- operators want it
pub record InOperand (l : Language) (wanting : List (List ℕ)) (is_good : List ℕ → Bool) (from : ℕ) (read back : List ℕ) (at : ℕ) : Type 0 where
  pub place : ℕ
  pub criterion : List ℕ
  pub blanks : List ℕ
  pub operator : List ℕ
  pub more : List ℕ  -- blanks again
  pub operand : List ℕ
  pub test : TestIn l from read back criterion (blanks ++ (operator ++ (more ++ operand))) place
  pub there : at + length operand ≡ from + length read
  pub fine : IsFine l.is_tag l.is_decimal l.is_pattern l.most 0 (Test criterion)
  pub blank : list_all is_blank blanks ≡ true
  pub blank_more : list_all is_blank more ≡ true
  pub wants : is_one_of wanting operator ≡ true
  pub whole : whole_from operand_begin operand ≡ true
  pub over : is_over (begins_from operand_begin) operand back ≡ true
  pub wrong : is_good (operand_meaning operand) ≡ false

-- what was read ends with a parenthesis or a `not`, before which nothing is at fault: it is one too many, since no query goes
-- on over it
pub record TooDeep (l : Language) (from : ℕ) (read back : List ℕ) (at : ℕ) : Type 0 where
  pub before : List ℕ
  pub mark : Token
  pub parts : read ≡ before ++ token_text mark
  pub place : at ≡ from + length before
  pub follows : TestMayFollow l before (token_text mark ++ back)
  pub opens : (mark ≡ OpenMark) ⊎ (mark ≡ NotWord)
  pub ended : is_ended mark back ≡ true

-- what stands at a fault; at one of syntax nothing that was read is at fault
abbrev pub IsAt : Language → ℕ → List ℕ → List ℕ → Fault → Type 0
IsAt l from read back (UnknownTag at) = InCriterion l (UnknownName l.is_tag) from read back at
IsAt l from read back (Number at) = InCriterion l (WrongNumber l) from read back at ⊎ InOperand l numeric_operators l.is_decimal from read back at
IsAt l from read back (Pattern at) = InOperand l pattern_operators l.is_pattern from read back at
IsAt l from read back (Deep at) = TooDeep l from read back at
IsAt l from read back (Syntax at) = (at ≡ from + length read) × NoneBefore l from read back

-- what was read at the fault of a line that begins at this place: no query without a fault goes on over it
pub record StandsIn (l : Language) (from : ℕ) (line : List ℕ) (f : Fault) : Type 0 where
  pub read : List ℕ
  pub back : List ℕ
  pub parts : line ≡ read ++ back
  pub dead : IsDead (Fine l) read back
  pub is_at : IsAt l from read back f

-- how many bytes lines are, with their line feeds
abbrev pub lines_length : List (List ℕ) → ℕ
lines_length [] = 0
lines_length (line ∷ lines) = length line + 1 + lines_length lines

-- the fault is that of one of these lines, which begin at this place; each line before it is passed over or is a query
pub record InLines (l : Language) (from : ℕ) (before : Option Written) (lines : List (List ℕ)) (f : Fault) : Type 0 where
  pub earlier : List (List ℕ)
  pub line : List ℕ
  pub later : List (List ℕ)
  pub all : Option Written
  pub parts : lines ≡ earlier ++ line ∷ later
  pub fine : AreQueries (Fine l) before earlier all
  pub kept : is_passed line ≡ false
  pub stands : StandsIn l (from + lines_length earlier) line f

-- each line of the text is passed over, and its end is this byte
abbrev pub HasNoQuery : List ℕ → ℕ → Type 0
HasNoQuery text at = (list_all is_passed (lines_of text) ≡ true) × (at ≡ length text)

-- what stands at the fault of a text: a text without a query has its fault, of syntax, at its end
abbrev pub Stands : Language → List ℕ → Fault → Type 0
Stands l text (Syntax at) = HasNoQuery text at ⊎ InLines l 0 None (lines_of text) (Syntax at)
Stands l text f = InLines l 0 None (lines_of text) f
