-- A criterion and an operand as they are written (vsl-query(7), "Record selection criteria"): their parts, and their text.
use Rattle.std.specs.Prelude.{ℕ, Bool, true, false, ◌&&◌, not, ◌==◌, nat_lt, if◌then◌else◌, List, [], ◌∷◌, ◌++◌, length, Option, Some, None, take, ◌-◌}
use Rattle.std.specs.List.{list_all}
use Rattle.query_grammar.specs.declared.lex.Quote.{Quote}
use Rattle.query_grammar.specs.Bytes.{is_digit, is_name_byte, is_word_byte, is_quote, quote_byte, open_brace, close_brace, plus, minus, comma, colon, open_bracket, close_bracket, backslash}

-- one byte or more, each of which passes
abbrev pub is_all : (ℕ → Bool) → List ℕ → Bool
is_all test w = nat_lt 0 (length w) && list_all test w

-- a word, or a text in quotes
pub data Text : Type 0 where
  Plain : List ℕ → Text
  Quoted : Quote → List ℕ → Text

-- the bytes of a word or of a text in quotes
abbrev pub text_of : Text → List ℕ
text_of (Plain w) = w
text_of (Quoted q w) = quote_byte q ∷ w ++ quote_byte q ∷ []

-- between quotes: no such quote, but behind a backslash, which takes the next byte as it is
abbrev pub is_inside : Bool → Quote → List ℕ → Bool
is_inside escaped q [] = not escaped
is_inside true q (c ∷ w) = is_inside false q w
is_inside false q (c ∷ w) = if c == backslash then is_inside true q w else (if c == quote_byte q then false else is_inside false q w)

-- a word has a byte or more, each a byte of words; a text in quotes ends where it is closed. A quoted one may be empty:
-- `:""` is a colon alone, `eq ''` asks for no bytes, and `~ ''` matches everywhere (vsl-query(7), "Operand"; that it
-- may be empty is this project's choice)
abbrev pub is_text : Text → Bool
is_text (Plain w) = is_all is_word_byte w
is_text (Quoted q w) = is_inside false q w

-- bytes between quotes without the backslashes that take a byte as it is. Without them no text could have both kinds of
-- quotes (this project's choice)
abbrev pub unescaped : Bool → List ℕ → List ℕ
unescaped escaped [] = []
unescaped true (c ∷ w) = c ∷ unescaped false w
unescaped false (c ∷ w) = if c == backslash then unescaped true w else c ∷ unescaped false w

-- what a prefix or an operand stands for
abbrev pub meant_by : Text → List ℕ
meant_by (Plain w) = w
meant_by (Quoted q w) = unescaped false w

-- what an operand's bytes stand for. A pattern is read of what is left: `'x\.y'` is the pattern `x.y`, and `'x\\.y'`
-- has the literal point (this project's choice)
abbrev pub operand_meaning : List ℕ → List ℕ
operand_meaning [] = []
operand_meaning (c ∷ w) = if is_quote c then unescaped false (take (length w - 1) w) else c ∷ w

-- the bytes of a field
abbrev pub field_text : Option (List ℕ) → List ℕ
field_text None = []
field_text (Some digits) = open_bracket ∷ digits ++ close_bracket ∷ []

-- a field has a digit or more, and no other bytes
abbrev pub is_field : Option (List ℕ) → Bool
is_field None = true
is_field (Some digits) = is_all is_digit digits

-- the operator of a level: that or more, that or less
pub data LevelSign : Type 0 where
  OrMore : LevelSign
  OrLess : LevelSign

-- a level: its digits and its sign
pub record Level : Type 0 where
  pub digits : List ℕ
  pub operator : Option LevelSign

-- the bytes of a level's sign
abbrev pub sign_text : Option LevelSign → List ℕ
sign_text None = []
sign_text (Some OrMore) = plus ∷ []
sign_text (Some OrLess) = minus ∷ []

-- the bytes of a level, with its braces
abbrev pub level_text : Option Level → List ℕ
level_text None = []
level_text (Some l) = open_brace ∷ l.digits ++ sign_text l.operator ++ close_brace ∷ []

-- a level has a digit or more, and no other bytes
abbrev pub is_level : Option Level → Bool
is_level None = true
is_level (Some l) = is_all is_digit l.digits

-- names with a comma between each two
abbrev pub joined_names : List (List ℕ) → List ℕ
joined_names [] = []
joined_names (name ∷ []) = name
joined_names (name ∷ other ∷ names) = name ++ comma ∷ joined_names (other ∷ names)

-- the bytes of a prefix, with its colon
abbrev pub prefix_text : Option Text → List ℕ
prefix_text None = []
prefix_text (Some prefix) = colon ∷ text_of prefix

-- a prefix, if there is one, is a text as it is written
abbrev pub is_some_text : Option Text → Bool
is_some_text None = true
is_some_text (Some prefix) = is_text prefix

-- a criterion: `[{level}]name[,name..][:prefix][[digits]]`
pub record Parts : Type 0 where
  pub level : Option Level
  pub name : List ℕ
  pub names : List (List ℕ)  -- those behind the first
  pub prefix : Option Text
  pub field : Option (List ℕ)

-- the names of a criterion, in order
abbrev pub names_of : Parts → List (List ℕ)
names_of p = p.name ∷ p.names

-- the bytes of a criterion
abbrev pub criterion_text : Parts → List ℕ
criterion_text p = level_text p.level ++ joined_names (names_of p) ++ prefix_text p.prefix ++ field_text p.field

-- a criterion has level, names, prefix and field as they are written
abbrev pub is_criterion : Parts → Bool
is_criterion p = is_level p.level && list_all (is_all is_name_byte) (names_of p) && is_some_text p.prefix && is_field p.field
