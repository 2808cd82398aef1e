-- Under the rules of the language queries without a fault are read, and no others.
use Rattle.std.proofs.Common.{◌≡◌, ℕ, ◌+◌, Bool, true, List, Option, Some, None, refl, ap, ◌∙◌}
use Rattle.std.specs.Option.{is_none, option_or}
use Rattle.std.proofs.lemmas.Bool.{and_parts, and_from, lt-ltb, ltb-true}
use Rattle.query_grammar.specs.Grammar.{Written, Test, Compared, Not, Inside, And, Or}
use Rattle.query_grammar.specs.Scanner.{Fault}
use Rattle.query_grammar.specs.Judging.{rules_of, criterion_fault, operand_fault}
use Rattle.query_grammar.specs.Fine.{IsFine, IsFineQuery}
use Rattle.query_grammar.proofs.Tokens.{none_is}
use Rattle.query_grammar.proofs.Trees.{is_fine}
use Rattle.query_grammar.proofs.Rulings.{judge, rules_judge, criterion_anywhere, operand_anywhere}
use Rattle.query_grammar.proofs.Lines.{judged_read, judged_found, AreRead, AreFound}

-- neither of two faults is there
pub or_else_none : (x y : Option Fault) → option_or x y ≡ None → (x ≡ None) × (y ≡ None)
or_else_none None y e = (refl, e)
or_else_none (Some f) y e = absurd cc

-- the judge lets a query without a fault pass
fine_passes : (is_tag is_decimal is_pattern : List ℕ → Bool) (most : ℕ) (q : Written) (depth : ℕ) → IsFine is_tag is_decimal is_pattern most depth q → is_fine (judge is_tag is_decimal is_pattern most) depth q ≡ true
fine_passes is_tag is_decimal is_pattern most (Test w) depth f = ap is_none (f 0)
fine_passes is_tag is_decimal is_pattern most (Compared w operator operand) depth f =
    ap is_none (ap (λ (o : Option Fault). option_or o (operand_fault is_decimal is_pattern 0 operator operand)) (f.0 0) ∙ f.1 0)
fine_passes is_tag is_decimal is_pattern most (Not q) depth f = and_from _ _ (lt-ltb depth most f.0) (fine_passes is_tag is_decimal is_pattern most q (1 + depth) f.1)
fine_passes is_tag is_decimal is_pattern most (Inside q) depth f = and_from _ _ (lt-ltb depth most f.0) (fine_passes is_tag is_decimal is_pattern most q (1 + depth) f.1)
fine_passes is_tag is_decimal is_pattern most (And p q) depth f = and_from _ _ (fine_passes is_tag is_decimal is_pattern most p depth f.0) (fine_passes is_tag is_decimal is_pattern most q depth f.1)
fine_passes is_tag is_decimal is_pattern most (Or p q) depth f = and_from _ _ (fine_passes is_tag is_decimal is_pattern most p depth f.0) (fine_passes is_tag is_decimal is_pattern most q depth f.1)

-- what it lets pass has no fault
passes_fine : (is_tag is_decimal is_pattern : List ℕ → Bool) (most : ℕ) (q : Written) (depth : ℕ) → is_fine (judge is_tag is_decimal is_pattern most) depth q ≡ true → IsFine is_tag is_decimal is_pattern most depth q
passes_fine is_tag is_decimal is_pattern most (Test w) depth e = λ place. criterion_anywhere is_tag 0 place w (none_is (criterion_fault is_tag 0 w) e)
passes_fine is_tag is_decimal is_pattern most (Compared w operator operand) depth e =
    let a = or_else_none (criterion_fault is_tag 0 w) (operand_fault is_decimal is_pattern 0 operator operand) (none_is _ e) in
    (λ place. criterion_anywhere is_tag 0 place w a.0, λ place. operand_anywhere is_decimal is_pattern 0 place operator operand a.1)
passes_fine is_tag is_decimal is_pattern most (Not q) depth e = let a = and_parts _ _ e in (ltb-true depth most a.0, passes_fine is_tag is_decimal is_pattern most q (1 + depth) a.1)
passes_fine is_tag is_decimal is_pattern most (Inside q) depth e = let a = and_parts _ _ e in (ltb-true depth most a.0, passes_fine is_tag is_decimal is_pattern most q (1 + depth) a.1)
passes_fine is_tag is_decimal is_pattern most (And p q) depth e = let a = and_parts _ _ e in (passes_fine is_tag is_decimal is_pattern most p depth a.0, passes_fine is_tag is_decimal is_pattern most q depth a.1)
passes_fine is_tag is_decimal is_pattern most (Or p q) depth e = let a = and_parts _ _ e in (passes_fine is_tag is_decimal is_pattern most p depth a.0, passes_fine is_tag is_decimal is_pattern most q depth a.1)

-- queries without a fault are read
pub fine_lines_read : (is_tag is_decimal is_pattern : List ℕ → Bool) (most : ℕ) → AreRead (rules_of is_tag is_decimal is_pattern most) (IsFineQuery is_tag is_decimal is_pattern most)
fine_lines_read is_tag is_decimal is_pattern most = record {
  each = λ at line q is. judged_read (rules_of is_tag is_decimal is_pattern most) (judge is_tag is_decimal is_pattern most) (rules_judge is_tag is_decimal is_pattern most) at line q is.0 (fine_passes is_tag is_decimal is_pattern most q 0 is.1);
}

-- what is read is queries without a fault
pub fine_lines_found : (is_tag is_decimal is_pattern : List ℕ → Bool) (most : ℕ) → AreFound (rules_of is_tag is_decimal is_pattern most) (IsFineQuery is_tag is_decimal is_pattern most)
fine_lines_found is_tag is_decimal is_pattern most = record {
  each = λ at line out e.
      let h = judged_found (rules_of is_tag is_decimal is_pattern most) (judge is_tag is_decimal is_pattern most) (rules_judge is_tag is_decimal is_pattern most) at line out e in
      record { query = h.query; is = (h.whole, passes_fine is_tag is_decimal is_pattern most h.query 0 h.fine); steps = h.steps };
}
