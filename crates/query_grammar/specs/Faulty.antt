-- What is at fault in a criterion's bytes (vsl-query(7), "Record selection criteria"; the ranges of numbers are this project's choice).
use Rattle.std.specs.Prelude.{◌≡◌, ℕ, ◌+◌, ◌<◌, ◌≤◌, Bool, true, false, ◌&&◌, not, List, [], ◌∷◌, ◌++◌, length, Option}
use Rattle.std.specs.List.{list_all}
use Rattle.std.specs.Str.Parse.{digits_value}
use Rattle.query_grammar.specs.declared.lex.Lex.TheVariants.{Begin}
use Rattle.query_grammar.specs.Bytes.{is_digit, is_name_byte, open_brace, comma, open_bracket}
use Rattle.query_grammar.specs.Lexical.{whole_from}
use Rattle.query_grammar.specs.Criterion.{is_all, Level, is_level, level_text}

-- bytes don't begin with one that passes
abbrev pub ends_there : (ℕ → Bool) → List ℕ → Bool
ends_there test [] = true
ends_there test (c ∷ w) = not (test c)

-- one byte or more that pass, behind which none that passes comes next
abbrev pub is_run : (ℕ → Bool) → List ℕ → List ℕ → Bool
is_run test w behind = is_all test w && ends_there test behind

-- names with a comma behind each
abbrev pub before_comma : List (List ℕ) → List ℕ
before_comma [] = []
before_comma (name ∷ names) = name ++ comma ∷ before_comma names

-- the first name of a criterion that is no tag begins at this byte
pub record UnknownName (is_tag : List ℕ → Bool) (criterion : List ℕ) (at : ℕ) : Type 0 where
  pub level : Option Level
  pub tags : List (List ℕ)
  pub name : List ℕ
  pub behind : List ℕ
  pub parts : criterion ≡ level_text level ++ (before_comma tags ++ (name ++ behind))
  pub place : at ≡ length (level_text level ++ before_comma tags)
  pub is : is_level level ≡ true
  pub are : list_all (is_all is_name_byte) tags ≡ true
  pub known : list_all is_tag tags ≡ true
  pub run : is_run is_name_byte name behind ≡ true
  pub unknown : is_tag name ≡ false

-- the digits of a criterion's level begin at this byte, and are above 9,999
pub record WrongLevel (criterion : List ℕ) (at : ℕ) : Type 0 where
  pub digits : List ℕ
  pub behind : List ℕ
  pub parts : criterion ≡ open_brace ∷ (digits ++ behind)
  pub place : at ≡ 1
  pub run : is_run is_digit digits behind ≡ true
  pub great : 9999 < digits_value 10 digits

-- the digits of a criterion's field, behind what would be a criterion without it, begin at this byte, and are not 1 to 9,999
pub record WrongField (criterion : List ℕ) (at : ℕ) : Type 0 where
  pub front : List ℕ
  pub digits : List ℕ
  pub behind : List ℕ
  pub parts : criterion ≡ front ++ open_bracket ∷ (digits ++ behind)
  pub place : at ≡ length front + 1
  pub whole : whole_from Begin front ≡ true
  pub run : is_run is_digit digits behind ≡ true
  pub wrong : (1 ≤ digits_value 10 digits) × (digits_value 10 digits ≤ 9999) → ⊥
