-- What a query is (vsl-query(7), "Query Expressions"; how a word ends is this project's choice). How it is grouped, which
-- tokens it has, and how they lie in a line.
use Rattle.std.specs.Prelude.{◌≡◌, ℕ, Bool, true, false, ◌&&◌, ◌||◌, not, List, [], ◌∷◌, ◌++◌, length, codes}
use Rattle.query_grammar.specs.declared.lex.Lex.TheVariants.{Begin}
use Rattle.query_grammar.specs.Bytes.{is_blank}
use Rattle.query_grammar.specs.Lexical.{operand_begin, begins_from, whole_from, is_one_of, begins_one_of, operators, words, ends_word}

-- ---- tokens

-- a token of a query
pub data Token : Type 0 where
  CriterionToken : List ℕ → Token
  OperatorToken : List ℕ → Token
  OperandToken : List ℕ → Token
  NotWord : Token
  AndWord : Token
  OrWord : Token
  OpenMark : Token
  CloseMark : Token

-- the bytes of a token
abbrev pub token_text : Token → List ℕ
token_text (CriterionToken w) = w
token_text (OperatorToken w) = w
token_text (OperandToken w) = w
token_text NotWord = codes "not"
token_text AndWord = codes "and"
token_text OrWord = codes "or"
token_text OpenMark = codes "("
token_text CloseMark = codes ")"

-- a token has bytes as they are written
abbrev pub is_token : Token → Bool
is_token (CriterionToken w) = whole_from Begin w
is_token (OperatorToken w) = is_one_of operators w
is_token (OperandToken w) = whole_from operand_begin w
is_token _ = true

-- what follows doesn't make it longer
abbrev pub is_over : (List ℕ → Bool) → List ℕ → List ℕ → Bool
is_over begins w [] = true
is_over begins w (c ∷ rest) = not (begins (w ++ c ∷ []))

-- the operators that are words
abbrev pub operator_words : List (List ℕ)
operator_words = codes "eq" ∷ codes "ne" ∷ []

-- a token ends where what follows makes it no longer, and a criterion isn't a word by itself. So
-- `RespStatus == 200and End` has the operand `200and`, which is no number
abbrev pub is_ended : Token → List ℕ → Bool
is_ended (CriterionToken w) rest = is_over (begins_from Begin) w rest && not (is_one_of words w && ends_word rest)
is_ended (OperatorToken w) rest = is_over (begins_one_of operators) w rest && (not (is_one_of operator_words w) || ends_word rest)
is_ended (OperandToken w) rest = is_over (begins_from operand_begin) w rest
is_ended NotWord rest = ends_word rest
is_ended AndWord rest = ends_word rest
is_ended OrWord rest = ends_word rest
is_ended _ _ = true

-- a text is these tokens, with blanks before, between and behind them
pub data IsLaid : List Token → List ℕ → Type 0 where
  nothing : IsLaid [] []
  blank : {ts : List Token} {text : List ℕ} (c : ℕ) → is_blank c ≡ true → IsLaid ts text → IsLaid ts (c ∷ text)
  token : {ts : List Token} {rest : List ℕ} (t : Token) → is_token t ≡ true → is_ended t rest ≡ true → IsLaid ts rest → IsLaid (t ∷ ts) (token_text t ++ rest)

-- ---- grouping

-- a query as it is written
pub data Written : Type 0 where
  Test : List ℕ → Written  -- a criterion
  Compared : List ℕ → List ℕ → List ℕ → Written  -- a criterion, an operator and an operand
  Not : Written → Written  -- not q
  Inside : Written → Written  -- ( q )
  And : Written → Written → Written  -- p and q
  Or : Written → Written → Written  -- p or q

-- the tokens of a query
abbrev pub tokens_of : Written → List Token
tokens_of (Test criterion) = CriterionToken criterion ∷ []
tokens_of (Compared criterion operator operand) = CriterionToken criterion ∷ OperatorToken operator ∷ OperandToken operand ∷ []
tokens_of (Not q) = NotWord ∷ tokens_of q
tokens_of (Inside q) = OpenMark ∷ tokens_of q ++ CloseMark ∷ []
tokens_of (And p q) = tokens_of p ++ AndWord ∷ tokens_of q
tokens_of (Or p q) = tokens_of p ++ OrWord ∷ tokens_of q

-- what may stand behind `not` and behind `and`
abbrev pub is_unary : Written → Bool
is_unary (And p q) = false
is_unary (Or p q) = false
is_unary _ = true

-- what may stand before `and` and behind `or`
abbrev pub is_and : Written → Bool
is_and (Or p q) = false
is_and _ = true

-- `not` holds tighter than `and`, and `and` than `or`; each groups from the left
abbrev pub is_grouped : Written → Bool
is_grouped (Test criterion) = true
is_grouped (Compared criterion operator operand) = true
is_grouped (Not q) = is_unary q && is_grouped q
is_grouped (Inside q) = is_grouped q
is_grouped (And p q) = is_and p && is_unary q && is_grouped p && is_grouped q
is_grouped (Or p q) = is_and q && is_grouped p && is_grouped q

-- the line is this query
pub record IsQuery (line : List ℕ) (q : Written) : Type 0 where
  pub grouped : is_grouped q ≡ true
  pub laid : IsLaid (tokens_of q) line

-- something that is a query begins with these bytes
pub record CanGoOn (Is : List ℕ → Written → Type 0) (prefix : List ℕ) : Type 0 where
  pub more : List ℕ
  pub query : Written
  pub whole : Is (prefix ++ more) query

-- no query goes on over the byte behind the prefix; where nothing is behind it, it is no query itself
abbrev pub IsDead : (List ℕ → Written → Type 0) → List ℕ → List ℕ → Type 0
IsDead Is prefix [] = (q : Written) → Is prefix q → ⊥
IsDead Is prefix (c ∷ back) = (more : List ℕ) (q : Written) → Is (prefix ++ c ∷ more) q → ⊥

-- `at` is the place of the first byte at which no query can go on, or the end of bytes that stop early. So `and End`
-- stops at 3 and not at 0, because `andy` would be a name (this project's choice)
pub record StopsAt (Is : List ℕ → Written → Type 0) (bytes : List ℕ) (at : ℕ) : Type 0 where
  pub prefix : List ℕ
  pub back : List ℕ
  pub parts : bytes ≡ prefix ++ back
  pub place : at ≡ length prefix
  pub alive : CanGoOn Is prefix
  pub dead : IsDead Is prefix back
