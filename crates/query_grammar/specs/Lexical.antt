-- The tokens of a query, byte by byte (vsl-query(7), "Record selection criteria", "Operator" and "Operand").
use Rattle.std.specs.Prelude.{ℕ, suc, Bool, true, false, ◌&&◌, ◌||◌, ◌==◌, if◌then◌else◌, List, [], ◌∷◌, Option, Some, None, codes}
use Rattle.std.specs.List.{list_any}
use Rattle.std.specs.Str.{bytes_eq}
use Rattle.query_grammar.specs.declared.lex.Quote.TheVariants.{Double, Single}
use Rattle.query_grammar.specs.Bytes.{is_blank, is_digit, is_name_byte, is_word_byte, open_brace, close_brace, plus, minus, comma, colon, open_bracket, close_bracket, double_quote, single_quote, backslash, is_quote, quote_byte}
use Rattle.query_grammar.specs.declared.lex.Part.{Part}
use Rattle.query_grammar.specs.declared.lex.Part.TheVariants.{Prefix, Operand}
use Rattle.query_grammar.specs.declared.lex.Lex.{Lex}
use Rattle.query_grammar.specs.declared.lex.Lex.TheVariants.{Begin, LevelOpen, Level, LevelSign, NameNext, InName, TextNext, InWord, InQuote, Escape, TextDone, FieldOpen, Field, Done}

-- a state where a test holds, or what comes else
abbrev pub lex_if : Bool → Lex → Option Lex → Option Lex
lex_if test next other = if test then Some next else other

-- one byte more behind a word or a text in quotes: behind a prefix a field may begin, and behind an operand nothing
abbrev pub behind_text : Part → ℕ → Option Lex
behind_text Prefix c = lex_if (c == open_bracket) FieldOpen None
behind_text Operand c = None

-- one byte more
abbrev pub lex : Lex → ℕ → Option Lex
lex Begin c = lex_if (c == open_brace) LevelOpen (lex_if (is_name_byte c) InName None)
lex LevelOpen c = lex_if (is_digit c) Level None
lex Level c = lex_if (is_digit c) Level (lex_if ((c == plus) || (c == minus)) LevelSign (lex_if (c == close_brace) NameNext None))
lex LevelSign c = lex_if (c == close_brace) NameNext None
lex NameNext c = lex_if (is_name_byte c) InName None
lex InName c = lex_if (is_name_byte c) InName (lex_if (c == comma) NameNext (lex_if (c == colon) (TextNext Prefix) (lex_if (c == open_bracket) FieldOpen None)))
lex (TextNext p) c = lex_if (is_word_byte c) (InWord p) (lex_if (c == double_quote) (InQuote p Double) (lex_if (c == single_quote) (InQuote p Single) None))
lex (InWord p) c = lex_if (is_word_byte c) (InWord p) (behind_text p c)
lex (InQuote p q) c = lex_if (c == backslash) (Escape p q) (lex_if (c == quote_byte q) (TextDone p) (Some (InQuote p q)))
lex (Escape p q) c = Some (InQuote p q)
lex (TextDone p) c = behind_text p c
lex FieldOpen c = lex_if (is_digit c) Field None
lex Field c = lex_if (is_digit c) Field (lex_if (c == close_bracket) Done None)
lex Done c = None

-- where an operand begins
abbrev pub operand_begin : Lex
operand_begin = TextNext Operand

-- where the bytes lead from a state, or from none
abbrev pub lexed_from : List ℕ → Option Lex → Option Lex
lexed_from [] o = o
lexed_from (c ∷ w) None = None
lexed_from (c ∷ w) (Some l) = lexed_from w (lex l c)

-- where the bytes lead from a state
abbrev pub lexed : Lex → List ℕ → Option Lex
lexed l w = lexed_from w (Some l)

-- whether the token may end here
abbrev pub may_end : Lex → Bool
may_end InName = true
may_end (InWord p) = true
may_end (TextDone p) = true
may_end Done = true
may_end _ = false

-- bytes lead somewhere
abbrev pub is_state : Option Lex → Bool
is_state None = false
is_state (Some l) = true

-- bytes lead where a token may end
abbrev pub is_last : Option Lex → Bool
is_last None = false
is_last (Some l) = may_end l

-- bytes begin a token that is read from this state on
abbrev pub begins_from : Lex → List ℕ → Bool
begins_from l w = is_state (lexed l w)

-- bytes are a token that is read from this state on
abbrev pub whole_from : Lex → List ℕ → Bool
whole_from l w = is_last (lexed l w)

-- ---- words and operators

-- bytes begin a word
abbrev pub is_prefix : List ℕ → List ℕ → Bool
is_prefix [] w = true
is_prefix (c ∷ prefix) [] = false
is_prefix (c ∷ prefix) (d ∷ w) = (c == d) && is_prefix prefix w

-- bytes are one of these words
abbrev pub is_one_of : List (List ℕ) → List ℕ → Bool
is_one_of words w = list_any (bytes_eq w) words

-- bytes begin one of these words
abbrev pub begins_one_of : List (List ℕ) → List ℕ → Bool
begins_one_of words w = list_any (is_prefix w) words

-- the operators of a test
abbrev pub operators : List (List ℕ)
operators = codes "==" ∷ codes "!=" ∷ codes "<" ∷ codes "<=" ∷ codes ">" ∷ codes ">=" ∷ codes "~" ∷ codes "!~" ∷ codes "eq" ∷ codes "ne" ∷ []

-- the words that are no names where what follows ends them
abbrev pub words : List (List ℕ)
words = codes "not" ∷ codes "and" ∷ codes "or" ∷ codes "eq" ∷ codes "ne" ∷ []

-- a blank, a parenthesis, a quote or the line's end ends a word. Before any other byte a test begins with the word as a
-- name: `not:x` has an unknown tag, and `not*` matches Notice (this project's choice)
abbrev pub ends_word : List ℕ → Bool
ends_word [] = true
ends_word (c ∷ rest) = is_blank c || (c == 40) || (c == 41) || is_quote c

-- how many bytes go on from a state, and to which state they lead
unfoldable pub lex_along : Lex → List ℕ → ℕ × Lex
lex_along l [] = (0, l)
lex_along l (c ∷ text) = elim (lex l c) [ None ↦ (0, l) | Some next ↦ let x = lex_along next text in (suc x.0, x.1) ]
