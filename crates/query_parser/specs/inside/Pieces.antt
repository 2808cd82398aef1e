-- The pieces of a criterion's bytes, as they are cut.
use Rattle.std.specs.Prelude.{ℕ, suc, ◌+◌, Bool, false, ◌||◌, not, ◌==◌, if◌then◌else◌, List, [], ◌∷◌, take, drop, Option, Some, None, option_map}
use Rattle.query_grammar.specs.declared.lex.Lex.{Lex}
use Rattle.query_grammar.specs.declared.lex.Lex.TheVariants.{Begin}
use Rattle.query_grammar.specs.Bytes.{is_digit, is_name_byte}
use Rattle.query_grammar.specs.Lexical.{lex}
use Rattle.query_grammar.specs.Criterion.{operand_meaning}
use Rattle.query_grammar.specs.Scanner.{Fault}
use Rattle.query_grammar.specs.Judging.{number, names_fault, is_field_open}
use Rattle.query_parser.specs.declared.criterion.Kind.{Kind}
use Rattle.query_parser.specs.declared.criterion.Kind.TheVariants.{Digits, Name, Names, InLevel}
use Rattle.query_parser.specs.declared.test.Bound.{Bound}
use Rattle.query_parser.specs.declared.test.Bound.TheVariants.{Exactly, AtLeast, AtMost}
use Rattle.query_parser.specs.declared.test.Level.{Level}

-- a byte is of a kind
abbrev pub is_of : Kind → ℕ → Bool
is_of Digits c = is_digit c
is_of Name c = is_name_byte c
is_of Names c = is_name_byte c || (c == 44)
is_of InLevel c = not (c == 125)

-- how many of the first bytes pass
abbrev pub leading : (ℕ → Bool) → List ℕ → ℕ
leading test [] = 0
leading test (c ∷ w) = if test c then suc (leading test w) else 0

-- bytes without the first
abbrev pub without_first : List ℕ → List ℕ
without_first [] = []
without_first (c ∷ w) = w

-- how many bytes stand before the bracket that opens a field, where there is one
abbrev pub bracket_from : Option Lex → List ℕ → Option ℕ
bracket_from (Some l) (c ∷ w) = if is_field_open (lex l c) then Some 0 else option_map suc (bracket_from (lex l c) w)
bracket_from _ _ = None

-- how many bytes of a criterion stand before the bracket of its field
abbrev pub bracket : List ℕ → Option ℕ
bracket text = bracket_from (Some Begin) text

-- the bytes before the bracket of a field, if there is one
abbrev pub before_field : Option ℕ → List ℕ → List ℕ
before_field None text = text
before_field (Some n) text = take n text

-- the field behind the bracket, if there is one
abbrev pub field_number : Option ℕ → List ℕ → Option ℕ
field_number None text = None
field_number (Some n) text = Some (number 0 (drop (n + 1) text))

-- the bound that the byte behind a level's digits means
abbrev pub bound_at : List ℕ → Bound
bound_at [] = Exactly
bound_at (c ∷ w) = if c == 43 then AtLeast else (if c == 45 then AtMost else Exactly)

-- the level whose digits come first
abbrev pub level_at : List ℕ → Level
level_at w = record { number = number 0 w; bound = bound_at (drop (leading is_digit w) w) }

-- the level at the beginning of a criterion, if there is one
abbrev pub first_level : List ℕ → Option Level
first_level [] = None
first_level (c ∷ w) = if c == 123 then Some (level_at w) else None

-- what stands behind the level of a criterion
abbrev pub level_rest : List ℕ → List ℕ
level_rest [] = []
level_rest (c ∷ w) = if c == 123 then without_first (drop (leading (is_of InLevel) w) w) else c ∷ w

-- the prefix behind the colon, if there is one
abbrev pub prefix_at : List ℕ → Option (List ℕ)
prefix_at [] = None
prefix_at (c ∷ w) = Some (operand_meaning w)

-- the fault of the names behind the brace that closes a level, if there is one
abbrev pub behind_brace : (List ℕ → Bool) → ℕ → List ℕ → Option Fault
behind_brace is_tag at [] = None
behind_brace is_tag at (c ∷ w) = names_fault is_tag (at + 1) (at + 1) [] w

-- the fault of the names behind a comma, if there is one
abbrev pub behind_comma : (List ℕ → Bool) → ℕ → List ℕ → Option Fault
behind_comma is_tag at [] = None
behind_comma is_tag at (c ∷ w) = if c == 44 then names_fault is_tag (at + 1) (at + 1) [] w else None

-- bytes begin with a comma
abbrev pub begins_with_comma : List ℕ → Bool
begins_with_comma [] = false
begins_with_comma (c ∷ w) = c == 44
