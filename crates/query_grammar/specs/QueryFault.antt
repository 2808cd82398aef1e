-- The first fault of a query's text (this project's choice, as is that a text is tested to be UTF-8 before all else).
use Rattle.std.specs.Prelude.{ℕ, Bool, if◌then◌else◌, List, Option, Some, None}
use Rattle.std.specs.Result.{result_err}
use Rattle.std.specs.Str.{is_utf8}
use Rattle.std.specs.Str.Lossy.{utf8_valid_len}
use Rattle.query_grammar.specs.Scanner.{Fault, Syntax}
use Rattle.query_grammar.specs.Judging.{rules_of}
use Rattle.query_grammar.specs.Lines.{lines_of, read_lines}

-- the first fault of a query's text: the first byte that isn't part of UTF-8, or else the first fault of its lines. A
-- pattern must be UTF-8 in any case, and one test of the whole text is easier to foresee than one of each token
abbrev pub query_fault : (List ℕ → Bool) → (List ℕ → Bool) → (List ℕ → Bool) → ℕ → List ℕ → Option Fault
query_fault is_tag is_decimal is_pattern most text =
    if is_utf8 text then result_err (read_lines (rules_of is_tag is_decimal is_pattern most) 0 None (lines_of text)) else Some (Syntax (utf8_valid_len text))
