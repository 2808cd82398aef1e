-- A text of queries has no fault, and a text without a fault is one.
use Rattle.std.proofs.Common.{◌≡◌, ℕ, Bool, true, false, cond, List, Result, Ok, Err, Some, None, refl, ap, IsUtf8}
use Rattle.std.specs.Str.{is_utf8}
use Rattle.std.specs.Str.Lossy.{utf8_valid_len}
use Rattle.std.proofs.lemmas.Bool.{cond-true}
use Rattle.std.proofs.lemmas.Str.{IsUtf8-from_is_utf8, is_utf8-from_IsUtf8}
use Rattle.query_grammar.specs.Step.{Step}
use Rattle.query_grammar.specs.Scanner.{Fault, Syntax}
use Rattle.query_grammar.specs.Judging.{rules_of}
use Rattle.query_grammar.specs.Lines.{lines_of, read_lines}
use Rattle.std.specs.Result.{result_err}
use Rattle.query_grammar.specs.QueryFault.{query_fault}

-- what was read, where there is no fault
pub record NoFault (r : Result (List Step) Fault) : Type 0 where
  pub steps : List Step
  pub read : r ≡ Ok steps

no_fault : (r : Result (List Step) Fault) → result_err r ≡ None → NoFault r
no_fault (Ok steps) e = record { steps = steps; read = refl }
no_fault (Err f) e = absurd cc

-- a text without a fault is UTF-8, and is read
pub record IsFaultless (is_tag is_decimal is_pattern : List ℕ → Bool) (most : ℕ) (text : List ℕ) : Type 0 where
  pub utf8 : IsUtf8 text
  pub read : NoFault (read_lines (rules_of is_tag is_decimal is_pattern most) 0 None (lines_of text))

by_utf8 : (is_tag is_decimal is_pattern : List ℕ → Bool) (most : ℕ) (text : List ℕ) (b : Bool) → is_utf8 text ≡ b
    → cond b (result_err (read_lines (rules_of is_tag is_decimal is_pattern most) 0 None (lines_of text))) (Some (Syntax (utf8_valid_len text))) ≡ None
    → IsFaultless is_tag is_decimal is_pattern most text
by_utf8 is_tag is_decimal is_pattern most text true u e = record { utf8 = IsUtf8-from_is_utf8 text u; read = no_fault _ e }
by_utf8 is_tag is_decimal is_pattern most text false u e = absurd cc

pub faultless : (is_tag is_decimal is_pattern : List ℕ → Bool) (most : ℕ) (text : List ℕ) → query_fault is_tag is_decimal is_pattern most text ≡ None → IsFaultless is_tag is_decimal is_pattern most text
faultless is_tag is_decimal is_pattern most text e = by_utf8 is_tag is_decimal is_pattern most text (is_utf8 text) refl e

-- in UTF-8 the fault is that of the lines
pub fault_is : (is_tag is_decimal is_pattern : List ℕ → Bool) (most : ℕ) (text : List ℕ) → IsUtf8 text
    → query_fault is_tag is_decimal is_pattern most text ≡ result_err (read_lines (rules_of is_tag is_decimal is_pattern most) 0 None (lines_of text))
fault_is is_tag is_decimal is_pattern most text u = cond-true (is_utf8 text) _ _ (is_utf8-from_IsUtf8 text u)

-- a fault is that of the reading
pub fault_read : (r : Result (List Step) Fault) (f : Fault) → result_err r ≡ Some f → r ≡ Err f
fault_read (Ok steps) f e = absurd cc
fault_read (Err g) f e = let same : g ≡ f = cc in ap (λ (x : Fault). Err x) same
