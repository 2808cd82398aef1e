-- The rules have no fault of syntax, and whether they have one doesn't depend on the place where a test stands.
use Rattle.std.proofs.Common.{◌≡◌, ℕ, ◌+◌, ◌-◌, ◌==◌, ◌&&◌, ◌||◌, not, Bool, true, false, cond, List, [], ◌∷◌, ◌++◌, length, Option, Some, None, refl, sym, ap, ◌∙◌}
use Rattle.std.specs.Prelude.{nat_lt}
use Rattle.std.specs.Option.{is_none, option_or}
use Rattle.query_grammar.specs.declared.mode.Mode.{Mode}
use Rattle.query_grammar.specs.declared.mode.Mode.TheVariants.{BeforeUnary, AfterCriterion, BeforeOperand, AfterUnary}
use Rattle.query_grammar.specs.declared.lex.Lex.{Lex}
use Rattle.query_grammar.specs.declared.lex.Lex.TheVariants.{Begin}
use Rattle.query_grammar.specs.Bytes.{is_name_byte}
use Rattle.query_grammar.specs.Lexical.{lex, is_one_of, words}
use Rattle.query_grammar.specs.Grammar.{Token, OperandToken, NotWord, AndWord, OrWord, OpenMark, CloseMark}
use Rattle.query_grammar.specs.Moves.{Kept, open_count}
use Rattle.query_grammar.specs.Scanner.{Fault, Syntax, UnknownTag, Number, Pattern, Deep, AreRules}
use Rattle.query_grammar.specs.Criterion.{operand_meaning}
use Rattle.query_grammar.specs.Judging.{name_fault, names_fault, behind_level, tags_fault, number, level_fault, is_field_open, field_value, field_fault, criterion_fault, numeric_operators, pattern_operators, operand_fault, test_fault, cut_fault, rules_of}
use Rattle.query_grammar.proofs.Tokens.{Judge, passes, Judges, none_is}

-- a fault that is not of syntax, or none where this is true
pub record Ruled (o : Option Fault) (b : Bool) : Type 0 where
  pub none : is_none o ≡ b
  pub never : (at : ℕ) → o ≡ Some (Syntax at) → ⊥

-- a fault at one place where there is one at another
abbrev pub Alike : Option Fault → Option Fault → Type 0
Alike x y = Ruled x (is_none y)

nothing : Ruled None true
nothing = record { none = refl; never = λ at e. absurd cc }

tag : (n : ℕ) → Ruled (Some (UnknownTag n)) false
tag n = record { none = refl; never = λ at e. absurd cc }

numeral : (n : ℕ) → Ruled (Some (Number n)) false
numeral n = record { none = refl; never = λ at e. absurd cc }

pattern : (n : ℕ) → Ruled (Some (Pattern n)) false
pattern n = record { none = refl; never = λ at e. absurd cc }

-- one more may be open, or not
opens : (b : Bool) (n : ℕ) → Ruled (cond b None (Some (Deep n))) b
opens true n = nothing
opens false n = record { none = refl; never = λ at e. absurd cc }

either : (b : Bool) (x y x2 y2 : Option Fault) → Alike x x2 → Alike y y2 → Alike (cond b x y) (cond b x2 y2)
either true x y x2 y2 p q = p
either false x y x2 y2 p q = q

both : (x y x2 y2 : Option Fault) → Alike x x2 → Alike y y2 → Alike (option_or x y) (option_or x2 y2)
both None y None y2 p q = q
both (Some f) y (Some g) y2 p q = p
both None y (Some g) y2 p q = let apart = p.none in absurd cc
both (Some f) y None y2 p q = let apart = p.none in absurd cc

name_rules : (is_tag : List ℕ → Bool) (at at2 : ℕ) (w : List ℕ) → Alike (name_fault is_tag at w) (name_fault is_tag at2 w)
name_rules is_tag at at2 [] = nothing
name_rules is_tag at at2 (c ∷ w) = either (is_tag (c ∷ w)) _ _ None (Some (UnknownTag at2)) nothing (tag at)

names_rules : (is_tag : List ℕ → Bool) (w : List ℕ) (at at2 from from2 : ℕ) (name : List ℕ) → Alike (names_fault is_tag at from name w) (names_fault is_tag at2 from2 name w)
names_rules is_tag [] at at2 from from2 name = name_rules is_tag from from2 name
names_rules is_tag (c ∷ w) at at2 from from2 name =
    let later = either (c == 44) _ _ (names_fault is_tag (at2 + 1) (at2 + 1) [] w) None (names_rules is_tag w (at + 1) (at2 + 1) (at + 1) (at2 + 1) []) nothing in
    either (is_name_byte c) _ _ (names_fault is_tag (at2 + 1) from2 (name ++ c ∷ []) w) (option_or (name_fault is_tag from2 name) (cond (c == 44) (names_fault is_tag (at2 + 1) (at2 + 1) [] w) None))
    (names_rules is_tag w (at + 1) (at2 + 1) from from2 (name ++ c ∷ []))
    (both (name_fault is_tag from name) _ (name_fault is_tag from2 name) _ (name_rules is_tag from from2 name) later)

behind_rules : (is_tag : List ℕ → Bool) (w : List ℕ) (at at2 : ℕ) → Alike (behind_level is_tag at w) (behind_level is_tag at2 w)
behind_rules is_tag [] at at2 = nothing
behind_rules is_tag (c ∷ w) at at2 =
    either (c == 125) _ _ (names_fault is_tag (at2 + 1) (at2 + 1) [] w) (behind_level is_tag (at2 + 1) w) (names_rules is_tag w (at + 1) (at2 + 1) (at + 1) (at2 + 1) []) (behind_rules is_tag w (at + 1) (at2 + 1))

tags_rules : (is_tag : List ℕ → Bool) (at at2 : ℕ) (w : List ℕ) → Alike (tags_fault is_tag at w) (tags_fault is_tag at2 w)
tags_rules is_tag at at2 [] = nothing
tags_rules is_tag at at2 (c ∷ w) =
    either (c == 123) _ _ (behind_level is_tag (at2 + 1) w) (names_fault is_tag at2 at2 [] (c ∷ w)) (behind_rules is_tag w (at + 1) (at2 + 1)) (names_rules is_tag (c ∷ w) at at2 at at2 [])

level_rules : (at at2 : ℕ) (w : List ℕ) → Alike (level_fault at w) (level_fault at2 w)
level_rules at at2 [] = nothing
level_rules at at2 (c ∷ w) = either ((c == 123) && nat_lt 9999 (number 0 w)) _ _ (Some (Number (at2 + 1))) None (numeral (at + 1)) nothing

value_rules : (at at2 : ℕ) (w : List ℕ) → Alike (field_value at w) (field_value at2 w)
value_rules at at2 [] = nothing
value_rules at at2 (c ∷ w) = either ((number 0 (c ∷ w) == 0) || nat_lt 9999 (number 0 (c ∷ w))) _ _ (Some (Number at2)) None (numeral at) nothing

field_rules : (w : List ℕ) (at at2 : ℕ) (o : Option Lex) → Alike (field_fault at o w) (field_fault at2 o w)
field_rules w at at2 None = nothing
field_rules [] at at2 (Some l) = nothing
field_rules (c ∷ w) at at2 (Some l) =
    either (is_field_open (lex l c)) _ _ (field_value (at2 + 1) w) (field_fault (at2 + 1) (lex l c) w) (value_rules (at + 1) (at2 + 1) w) (field_rules w (at + 1) (at2 + 1) (lex l c))

criterion_rules : (is_tag : List ℕ → Bool) (at at2 : ℕ) (w : List ℕ) → Alike (criterion_fault is_tag at w) (criterion_fault is_tag at2 w)
criterion_rules is_tag at at2 w =
    both (tags_fault is_tag at w) _ (tags_fault is_tag at2 w) _ (tags_rules is_tag at at2 w)
    (both (level_fault at w) _ (level_fault at2 w) (field_fault at2 (Some Begin) w) (level_rules at at2 w) (field_rules w at at2 (Some Begin)))

operand_rules : (is_decimal is_pattern : List ℕ → Bool) (at at2 : ℕ) (operator w : List ℕ) → Alike (operand_fault is_decimal is_pattern at operator w) (operand_fault is_decimal is_pattern at2 operator w)
operand_rules is_decimal is_pattern at at2 operator w =
    let no_pattern = is_one_of pattern_operators operator && not (is_pattern (operand_meaning w)) in
    either (is_one_of numeric_operators operator && not (is_decimal (operand_meaning w))) _ _ (Some (Number at2)) (cond no_pattern (Some (Pattern at2)) None) (numeral at)
    (either no_pattern _ _ (Some (Pattern at2)) None (pattern at) nothing)

-- without a fault at one place there is none at any
pub criterion_anywhere : (is_tag : List ℕ → Bool) (at at2 : ℕ) (w : List ℕ) → criterion_fault is_tag at w ≡ None → criterion_fault is_tag at2 w ≡ None
criterion_anywhere is_tag at at2 w e = none_is (criterion_fault is_tag at2 w) (sym (criterion_rules is_tag at at2 w).none ∙ ap is_none e)

pub operand_anywhere : (is_decimal is_pattern : List ℕ → Bool) (at at2 : ℕ) (operator w : List ℕ) → operand_fault is_decimal is_pattern at operator w ≡ None → operand_fault is_decimal is_pattern at2 operator w ≡ None
operand_anywhere is_decimal is_pattern at at2 operator w e = none_is (operand_fault is_decimal is_pattern at2 operator w) (sym (operand_rules is_decimal is_pattern at at2 operator w).none ∙ ap is_none e)

-- which tests pass under the rules of the query language
abbrev pub judge : (List ℕ → Bool) → (List ℕ → Bool) → (List ℕ → Bool) → ℕ → Judge
judge is_tag is_decimal is_pattern most = record {
  test = λ w. is_none (criterion_fault is_tag 0 w);
  compared = λ w operator operand. is_none (option_or (criterion_fault is_tag 0 w) (operand_fault is_decimal is_pattern 0 operator operand));
  opens = λ n. nat_lt n most;
}

token_rules : (is_tag is_decimal is_pattern : List ℕ → Bool) (most from place : ℕ) (m : Mode) (k : Kept) (t : Token) → Ruled (test_fault is_tag is_decimal is_pattern most from place m k t) (passes (judge is_tag is_decimal is_pattern most) m k t)
token_rules is_tag is_decimal is_pattern most from place BeforeUnary k NotWord = opens (nat_lt (open_count k.waiting) most) from
token_rules is_tag is_decimal is_pattern most from place BeforeUnary k OpenMark = opens (nat_lt (open_count k.waiting) most) from
token_rules is_tag is_decimal is_pattern most from place AfterCriterion k AndWord = criterion_rules is_tag place 0 k.criterion
token_rules is_tag is_decimal is_pattern most from place AfterCriterion k OrWord = criterion_rules is_tag place 0 k.criterion
token_rules is_tag is_decimal is_pattern most from place AfterCriterion k CloseMark = criterion_rules is_tag place 0 k.criterion
token_rules is_tag is_decimal is_pattern most from place BeforeOperand k (OperandToken w) =
    both (criterion_fault is_tag place k.criterion) _ (criterion_fault is_tag 0 k.criterion) (operand_fault is_decimal is_pattern 0 k.operator w) (criterion_rules is_tag place 0 k.criterion) (operand_rules is_decimal is_pattern from 0 k.operator w)
token_rules is_tag is_decimal is_pattern most from place _ k _ = nothing

cut_rules : (is_tag : List ℕ → Bool) (at place : ℕ) (m : Mode) (k : Kept) (w : List ℕ) → Alike (cut_fault is_tag at place m k w) (cut_fault is_tag at place m k w)
cut_rules is_tag at place BeforeUnary k w = either (is_one_of words w) _ _ None (criterion_fault is_tag (at - length w) w) nothing (criterion_rules is_tag (at - length w) (at - length w) w)
cut_rules is_tag at place AfterCriterion k w = criterion_rules is_tag place place k.criterion
cut_rules is_tag at place BeforeOperand k w = criterion_rules is_tag place place k.criterion
cut_rules is_tag at place AfterUnary k w = nothing

pub are_rules : (is_tag is_decimal is_pattern : List ℕ → Bool) (most : ℕ) → AreRules (rules_of is_tag is_decimal is_pattern most)
are_rules is_tag is_decimal is_pattern most = record {
  fault = λ from place m k t at e. (token_rules is_tag is_decimal is_pattern most from place m k t).never at e;
  cut = λ here place m k w at e. (cut_rules is_tag here place m k w).never at e;
}

pub rules_judge : (is_tag is_decimal is_pattern : List ℕ → Bool) (most : ℕ) → Judges (rules_of is_tag is_decimal is_pattern most) (judge is_tag is_decimal is_pattern most)
rules_judge is_tag is_decimal is_pattern most = record { none = λ from place m k t. (token_rules is_tag is_decimal is_pattern most from place m k t).none }
