-- Nothing in what was read of a line is at fault, as far as it goes (vsl-query(7); what is a fault is this project's choice).
use Rattle.std.specs.Prelude.{◌≡◌, ℕ, ◌⊎◌, true, false, List, [], ◌∷◌, ◌++◌}
use Rattle.std.specs.List.{list_all}
use Rattle.query_grammar.specs.declared.lex.Lex.TheVariants.{Begin}
use Rattle.query_grammar.specs.Bytes.{is_blank}
use Rattle.query_grammar.specs.Lexical.{operand_begin, begins_from, whole_from, is_one_of, begins_one_of, operators, words, ends_word}
use Rattle.query_grammar.specs.Grammar.{AndWord, OrWord, CloseMark, token_text, is_over, Test, Compared, CanGoOn}
use Rattle.query_grammar.specs.Fine.{IsFine}
use Rattle.query_grammar.specs.Faulty.{UnknownName}
use Rattle.query_grammar.specs.Tested.{Language, Fine, TestMayFollow, TestIn, AtNone, WrongNumber}

-- a test may begin where what was read ends, or these bytes have begun there: a word that ends, or a criterion that, as far as it
-- goes, has no name that isn't a tag and no wrong number
pub record BeforeTest (l : Language) (read back begun : List ℕ) : Type 0 where
  pub before : List ℕ
  pub parts : read ≡ before ++ begun
  pub follows : TestMayFollow l before (begun ++ back)
  pub begins : begins_from Begin begun ≡ true
  pub over : is_over (begins_from Begin) begun back ≡ true
  pub fine : ((is_one_of words begun ≡ true) × (ends_word back ≡ true)) ⊎ (AtNone (UnknownName l.is_tag begun) × AtNone (WrongNumber l begun))

-- what was read ends with a criterion that has no fault, blanks and these bytes
pub record BehindCriterion (l : Language) (from : ℕ) (read back begun : List ℕ) : Type 0 where
  pub place : ℕ
  pub criterion : List ℕ
  pub blanks : List ℕ
  pub test : TestIn l from read back criterion (blanks ++ begun) place
  pub fine : IsFine l.is_tag l.is_decimal l.is_pattern l.most 0 (Test criterion)
  pub blank : list_all is_blank blanks ≡ true

-- what was read ends with a criterion that has no fault, an operator, and these bytes, which are no whole operand: none, or one
-- whose quote is open
pub record BehindOperator (l : Language) (from : ℕ) (read back begun : List ℕ) : Type 0 where
  pub place : ℕ
  pub criterion : List ℕ
  pub blanks : List ℕ
  pub operator : List ℕ
  pub more : List ℕ  -- blanks again
  pub test : TestIn l from read back criterion (blanks ++ (operator ++ (more ++ begun))) place
  pub fine : IsFine l.is_tag l.is_decimal l.is_pattern l.most 0 (Test criterion)
  pub blank : list_all is_blank blanks ≡ true
  pub blank_more : list_all is_blank more ≡ true
  pub one : is_one_of operators operator ≡ true
  pub begins : begins_from operand_begin begun ≡ true
  pub cut : whole_from operand_begin begun ≡ false

-- what was read ends with a comparison that has no fault, blanks and these bytes
pub record BehindOperand (l : Language) (from : ℕ) (read back begun : List ℕ) : Type 0 where
  pub place : ℕ
  pub criterion : List ℕ
  pub blanks : List ℕ
  pub operator : List ℕ
  pub more : List ℕ  -- blanks again
  pub operand : List ℕ
  pub last : List ℕ  -- and again
  pub test : TestIn l from read back criterion (blanks ++ (operator ++ (more ++ (operand ++ (last ++ begun))))) place
  pub fine : IsFine l.is_tag l.is_decimal l.is_pattern l.most 0 (Compared criterion operator operand)
  pub blank : list_all is_blank blanks ≡ true
  pub blank_more : list_all is_blank more ≡ true
  pub blank_last : list_all is_blank last ≡ true
  pub one : is_one_of operators operator ≡ true
  pub whole : whole_from operand_begin operand ≡ true
  pub over : is_over (begins_from operand_begin) operand (last ++ (begun ++ back)) ≡ true

-- what was read ends with a parenthesis that closes, up to which it begins a query without a fault, blanks and these bytes
pub record BehindMark (l : Language) (read begun : List ℕ) : Type 0 where
  pub before : List ℕ
  pub blanks : List ℕ
  pub parts : read ≡ before ++ (token_text CloseMark ++ (blanks ++ begun))
  pub goes_on : CanGoOn (Fine l) (before ++ token_text CloseMark)
  pub blank : list_all is_blank blanks ≡ true

-- what may stand behind a whole test
abbrev pub behind_tests : List (List ℕ)
behind_tests = token_text CloseMark ∷ token_text AndWord ∷ token_text OrWord ∷ []

-- nothing in what was read of a line is at fault, as far as it goes. Bytes that have begun at its end, if any, are part of a test, or
-- the first of what may stand behind what was read before them
pub data NoneBefore (l : Language) (from : ℕ) (read back : List ℕ) : Type 0 where
  before_test : (begun : List ℕ) → BeforeTest l read back begun → NoneBefore l from read back
  behind_criterion : (begun : List ℕ) → BehindCriterion l from read back begun → begins_one_of (operators ++ behind_tests) begun ≡ true → NoneBefore l from read back
  behind_operator : (begun : List ℕ) → BehindOperator l from read back begun → NoneBefore l from read back
  behind_operand : (begun : List ℕ) → BehindOperand l from read back begun → begins_one_of behind_tests begun ≡ true → NoneBefore l from read back
  behind_mark : (begun : List ℕ) → BehindMark l read begun → begins_one_of behind_tests begun ≡ true → NoneBefore l from read back
