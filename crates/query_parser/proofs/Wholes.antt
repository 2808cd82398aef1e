-- Whether bytes are all of a token, and how long a unary is.
use Rattle.std.proofs.Common.{◌≡◌, ℕ, suc, ◌<◌, ◌≤◌, get_or, ◌==◌, ◌&&◌, Bool, true, false, List, [], ◌∷◌, length, take, drop, Option, Some, None, refl, sym, ap, subst, ◌∙◌, arith}
use Rattle.std.proofs.lemmas.Bool.Decides.{nat_tests}
use Rattle.query_grammar.specs.declared.mode.Mode.TheVariants.{BeforeUnary, BeforeOperand}
use Rattle.query_grammar.specs.declared.lex.Lex.{Lex}
use Rattle.query_grammar.specs.declared.lex.Lex.TheVariants.{Begin}
use Rattle.query_grammar.specs.Lexical.{operand_begin, lex, lexed_from, lex_along, is_last, may_end, whole_from}
use Rattle.query_grammar.specs.Moves.{Kept}
use Rattle.query_grammar.specs.Munches.{Munches, ends}
use Rattle.query_grammar.proofs.Along.{along_cons}
use Rattle.query_grammar.proofs.Lengths.{unary_length, value_length, mark_length}

-- all bytes lead on, and to where a token may end
abbrev pub is_all : ℕ × Lex → List ℕ → Bool
is_all x w = (x.0 == length w) && may_end x.1

none_last : (w : List ℕ) → is_last (lexed_from w None) ≡ false
none_last [] = refl
none_last (c ∷ w) = refl

none_all : (n : ℕ) → (0 == suc n) ≡ false
none_all n = grind (arith, nat_tests)

same_all : (m n : ℕ) → (suc m == suc n) ≡ (m == n)
same_all m n = grind (arith, nat_tests)

step_whole : (l : Lex) (c : ℕ) (w : List ℕ) (o : Option Lex) → lex l c ≡ o → ((next : Lex) → is_all (lex_along next w) w ≡ whole_from next w) → is_all (lex_along l (c ∷ w)) (c ∷ w) ≡ is_last (lexed_from w o)
step_whole l c w None e later = ap (λ (x : ℕ × Lex). is_all x (c ∷ w)) (along_cons l c w None e) ∙ ap (λ (b : Bool). b && may_end l) (none_all (length w)) ∙ sym (none_last w)
step_whole l c w (Some next) e later = ap (λ (x : ℕ × Lex). is_all x (c ∷ w)) (along_cons l c w (Some next) e) ∙ ap (λ (b : Bool). b && may_end (lex_along next w).1) (same_all (lex_along next w).0 (length w)) ∙ later next

pub whole_is : (l : Lex) (w : List ℕ) → is_all (lex_along l w) w ≡ whole_from l w
unfolding lex_along
whole_is l [] = refl
whole_is l (c ∷ w) = step_whole l c w (lex l c) refl (λ next. whole_is next w)

pub differ : (m n : ℕ) → (m ≡ n → ⊥) → (m == n) ≡ false
differ m n h = grind (arith, nat_tests)

equal : (m n : ℕ) → m ≡ n → (m == n) ≡ true
equal m n h = grind (arith, nat_tests)

-- the test on a length, by what is known of it
pub whole_then : (x : ℕ × Lex) (l : Lex) (w : List ℕ) → x ≡ lex_along l w → x.0 ≡ length w → may_end x.1 ≡ whole_from l w
whole_then x l w e n = sym (ap (λ (b : Bool). b && may_end x.1) (equal x.0 (length w) n)) ∙ ap (λ (y : ℕ × Lex). is_all y w) e ∙ whole_is l w

pub whole_else : (x : ℕ × Lex) (l : Lex) (w : List ℕ) → x ≡ lex_along l w → (x.0 ≡ length w → ⊥) → false ≡ whole_from l w
whole_else x l w e n = sym (ap (λ (b : Bool). b && may_end x.1) (differ x.0 (length w) n)) ∙ ap (λ (y : ℕ × Lex). is_all y w) e ∙ whole_is l w

pub parenthesis_long : (text : List ℕ) (k : Kept) → 1 ≤ length text → get_or text 0 0 ≡ 40 → Munches BeforeUnary k [] (take 1 text) (drop 1 text)
parenthesis_long [] k le e = absurd (omega arith)
parenthesis_long (c ∷ text) k le e =
    let same : c ≡ 40 = e in
    subst (λ (b : ℕ). Munches BeforeUnary k [] (b ∷ []) text) (sym same) (mark_length text k)

pub unary_long : (text : List ℕ) (k : Kept) (n : ℕ) → 1 ≤ length text → (get_or text 0 0 ≡ 40 → ⊥) → n ≡ (lex_along Begin text).0 → Munches BeforeUnary k [] (take n text) (drop n text)
unary_long [] k n some e same = absurd (omega arith)
unary_long (c ∷ text) k n some e same = subst (λ (m : ℕ). Munches BeforeUnary k [] (take m (c ∷ text)) (drop m (c ∷ text))) (sym same) (unary_length c text k (differ c 40 e))

pub empty_long : (text : List ℕ) (k : Kept) → length text < 1 → Munches BeforeUnary k [] [] text
empty_long [] k lt = ends []
empty_long (c ∷ text) k lt = absurd (omega arith)

step_within : (l : Lex) (c : ℕ) (w : List ℕ) (o : Option Lex) → lex l c ≡ o → ((next : Lex) → (lex_along next w).0 ≤ length w) → (lex_along l (c ∷ w)).0 ≤ length (c ∷ w)
step_within l c w None e later = subst (λ (x : ℕ × Lex). x.0 ≤ length (c ∷ w)) (sym (along_cons l c w None e)) (omega arith)
step_within l c w (Some next) e later = let h = later next in subst (λ (x : ℕ × Lex). x.0 ≤ length (c ∷ w)) (sym (along_cons l c w (Some next) e)) (omega arith)

-- no more bytes go on than there are
pub along_within : (l : Lex) (w : List ℕ) → (lex_along l w).0 ≤ length w
unfolding lex_along
along_within l [] = omega arith
along_within l (c ∷ w) = step_within l c w (lex l c) refl (λ next. along_within next w)

pub value_long : (text : List ℕ) (k : Kept) (n : ℕ) → n ≡ (lex_along operand_begin text).0 → Munches BeforeOperand k [] (take n text) (drop n text)
value_long text k n e = subst (λ (m : ℕ). Munches BeforeOperand k [] (take m text) (drop m text)) (sym e) (value_length text k)
