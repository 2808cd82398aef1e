-- The bytes of a query (vsl-query(7), "Record selection criteria" and "Operand").
use Rattle.std.specs.Prelude.{ℕ, Bool, ◌&&◌, ◌||◌, ◌==◌, nat_le}
pub use Rattle.vsl_decimal.specs.Decimal.{minus}
pub use Rattle.vsl_decimal.specs.Prefix.{colon}
pub use Rattle.vsl_tags.specs.TagSet.{comma}
use Rattle.query_grammar.specs.declared.lex.Quote.{Quote}
use Rattle.query_grammar.specs.declared.lex.Quote.TheVariants.{Double, Single}

-- space, tab, carriage return. With the last of them files of either kind of line end are read (this project's choice)
abbrev pub is_blank : ℕ → Bool
is_blank c = (c == 32) || (c == 9) || (c == 13)

-- a decimal digit
abbrev pub is_digit : ℕ → Bool
is_digit c = nat_le 48 c && nat_le c 57

-- letters, digits, `_` and `*`
abbrev pub is_name_byte : ℕ → Bool
is_name_byte c = (nat_le 97 c && nat_le c 122) || (nat_le 65 c && nat_le c 90) || is_digit c || (c == 95) || (c == 42)

-- and `+`, `-` and `.`
abbrev pub is_word_byte : ℕ → Bool
is_word_byte c = is_name_byte c || (c == 43) || (c == 45) || (c == 46)

-- the brace that opens a level
abbrev pub open_brace : ℕ
open_brace = 123

-- the brace that closes a level
abbrev pub close_brace : ℕ
close_brace = 125

-- behind the digits of a level: that or more
abbrev pub plus : ℕ
plus = 43

-- the bracket that opens a field
abbrev pub open_bracket : ℕ
open_bracket = 91

-- the bracket that closes a field
abbrev pub close_bracket : ℕ
close_bracket = 93

-- before and behind a text in quotes
abbrev pub double_quote : ℕ
double_quote = 34

-- the same, the other way
abbrev pub single_quote : ℕ
single_quote = 39

-- takes the byte behind it as it is, between quotes
abbrev pub backslash : ℕ
backslash = 92

-- a byte that opens or closes a text in quotes
abbrev pub is_quote : ℕ → Bool
is_quote c = (c == double_quote) || (c == single_quote)

-- the byte of a kind of quote
abbrev pub quote_byte : Quote → ℕ
quote_byte Double = double_quote
quote_byte Single = single_quote
