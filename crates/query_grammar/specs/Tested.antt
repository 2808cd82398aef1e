-- A test of a line that is read, and what may stand before it (vsl-query(7); what is a fault, and which comes first, is this project's
-- choice).
use Rattle.std.specs.Prelude.{◌≡◌, ℕ, ◌+◌, Bool, true, false, List, [], ◌∷◌, ◌++◌, length}
use Rattle.query_grammar.specs.declared.lex.Lex.TheVariants.{Begin}
use Rattle.query_grammar.specs.Bytes.{is_name_byte}
use Rattle.query_grammar.specs.Lexical.{begins_from, ends_word}
use Rattle.query_grammar.specs.Grammar.{is_over, Written, Test, CanGoOn}
use Rattle.query_grammar.specs.Fine.{IsFineQuery}
use Rattle.query_grammar.specs.Faulty.{UnknownName, WrongLevel, WrongField}

-- which names are tags, which texts are decimals, which are good patterns, and how many may be open at once
pub record Language : Type 0 where
  pub is_tag : List ℕ → Bool
  pub is_decimal : List ℕ → Bool
  pub is_pattern : List ℕ → Bool
  pub most : ℕ

-- the line is this query, which has no fault
abbrev pub Fine : Language → List ℕ → Written → Type 0
Fine l line q = IsFineQuery l.is_tag l.is_decimal l.is_pattern l.most line q

-- what follows these bytes makes no word longer that they end with: they are none, or their last byte is in no name, or the word
-- ends. So `notEnd` isn't `not` before `End`
pub data IsApart (before next : List ℕ) : Type 0 where
  no_bytes : before ≡ [] → IsApart before next
  other_byte : (bytes : List ℕ) (c : ℕ) → before ≡ bytes ++ c ∷ [] → is_name_byte c ≡ false → IsApart before next
  word_ends : ends_word next ≡ true → IsApart before next

-- a test may begin behind these bytes, where those follow, and nothing in them is at fault: with a blank and any test that is a
-- query they begin a query
pub record TestMayFollow (l : Language) (before next : List ℕ) : Type 0 where
  pub apart : IsApart before next
  pub each : (test : List ℕ) → Fine l test (Test test) → CanGoOn (Fine l) (before ++ 32 ∷ test)

-- what was read of a line has a test that begins at a place of the text: its criterion, as far as it goes, and what stands
-- behind it
pub record TestIn (l : Language) (from : ℕ) (read back criterion behind : List ℕ) (place : ℕ) : Type 0 where
  pub before : List ℕ
  pub parts : read ≡ before ++ (criterion ++ behind)
  pub there : place ≡ from + length before
  pub follows : TestMayFollow l before (criterion ++ (behind ++ back))
  pub begins : begins_from Begin criterion ≡ true
  pub over : is_over (begins_from Begin) criterion (behind ++ back) ≡ true

-- this holds at no byte
abbrev pub AtNone : (ℕ → Type 0) → Type 0
AtNone At = (at : ℕ) → At at → ⊥

-- a number of a criterion is wrong, and its names are tags; of two it is the level
pub data WrongNumber (l : Language) (criterion : List ℕ) (at : ℕ) : Type 0 where
  in_level : AtNone (UnknownName l.is_tag criterion) → WrongLevel criterion at → WrongNumber l criterion at
  in_field : AtNone (UnknownName l.is_tag criterion) → AtNone (WrongLevel criterion) → WrongField criterion at → WrongNumber l criterion at
