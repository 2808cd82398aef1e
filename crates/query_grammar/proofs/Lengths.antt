-- How long a token is, by the table of bytes.
use Rattle.std.proofs.Common.{◌≡◌, ℕ, ◌==◌, ◌&&◌, ◌||◌, Bool, false, List, [], ◌∷◌, ◌++◌, take, drop, Option, Some, None, refl, sym, ap, subst, ◌∙◌}
use Rattle.std.specs.Str.{bytes_eq}
use Rattle.query_grammar.specs.declared.mode.Mode.TheVariants.{BeforeUnary, BeforeOperand}
use Rattle.query_grammar.specs.declared.lex.Lex.{Lex}
use Rattle.query_grammar.specs.declared.lex.Lex.TheVariants.{Begin}
use Rattle.query_grammar.specs.Lexical.{operand_begin, lex, lexed, lexed_from, lex_along, is_state, begins_from}
use Rattle.query_grammar.specs.Moves.{Kept}
use Rattle.query_grammar.specs.Scanner.{begins}
use Rattle.query_grammar.specs.Munches.{Munches, ends, stops, more}
use Rattle.query_grammar.proofs.Lexing.{lexed-append}
use Rattle.query_grammar.proofs.Along.{along_cons}

one_more : (from l : Lex) (w : List ℕ) (c : ℕ) → lexed from w ≡ Some l → lexed from (w ++ c ∷ []) ≡ lex l c
one_more from l w c e = lexed-append w (c ∷ []) (Some from) ∙ ap (lexed_from (c ∷ [])) e

-- what a byte gives, where the others are known
value_step : (c : ℕ) (text : List ℕ) (l : Lex) (w : List ℕ) (k : Kept) (o : Option Lex) → lex l c ≡ o → lexed operand_begin w ≡ Some l
    → ((next : Lex) → lexed operand_begin (w ++ c ∷ []) ≡ Some next → Munches BeforeOperand k (w ++ c ∷ []) (take (lex_along next text).0 text) (drop (lex_along next text).0 text))
    → Munches BeforeOperand k w (take (lex_along l (c ∷ text)).0 (c ∷ text)) (drop (lex_along l (c ∷ text)).0 (c ∷ text))
value_step c text l w k None o e later =
    subst (λ (x : ℕ × Lex). Munches BeforeOperand k w (take x.0 (c ∷ text)) (drop x.0 (c ∷ text))) (sym (along_cons l c text None o)) (stops w c text (ap is_state (one_more operand_begin l w c e ∙ o)))
value_step c text l w k (Some next) o e later =
    let here : lexed operand_begin (w ++ c ∷ []) ≡ Some next = one_more operand_begin l w c e ∙ o in
    subst (λ (x : ℕ × Lex). Munches BeforeOperand k w (take x.0 (c ∷ text)) (drop x.0 (c ∷ text))) (sym (along_cons l c text (Some next) o)) (more c (ap is_state here) (later next here))

value_munches : (text : List ℕ) (l : Lex) (w : List ℕ) (k : Kept) → lexed operand_begin w ≡ Some l → Munches BeforeOperand k w (take (lex_along l text).0 text) (drop (lex_along l text).0 text)
unfolding lex_along
value_munches [] l w k e = ends w
value_munches (c ∷ text) l w k e = value_step c text l w k (lex l c) refl e (λ next here. value_munches text next (w ++ c ∷ []) k here)

pub value_length : (text : List ℕ) (k : Kept) → Munches BeforeOperand k [] (take (lex_along operand_begin text).0 text) (drop (lex_along operand_begin text).0 text)
value_length text k = value_munches text operand_begin [] k refl

-- ---- a unary: a parenthesis, or a criterion

begins_same : (k : Kept) (b : ℕ) (w : List ℕ) → (b == 40) ≡ false → begins_from Begin (b ∷ w) ≡ begins BeforeUnary k (b ∷ w)
begins_same k b w e = sym (ap (λ (p : Bool). (p && bytes_eq w []) || begins_from Begin (b ∷ w)) e)

operand_step : (c : ℕ) (text : List ℕ) (l : Lex) (b : ℕ) (w : List ℕ) (k : Kept) (o : Option Lex) → (b == 40) ≡ false → lex l c ≡ o → lexed Begin (b ∷ w) ≡ Some l
    → ((next : Lex) → lexed Begin ((b ∷ w) ++ c ∷ []) ≡ Some next → Munches BeforeUnary k ((b ∷ w) ++ c ∷ []) (take (lex_along next text).0 text) (drop (lex_along next text).0 text))
    → Munches BeforeUnary k (b ∷ w) (take (lex_along l (c ∷ text)).0 (c ∷ text)) (drop (lex_along l (c ∷ text)).0 (c ∷ text))
operand_step c text l b w k None no_mark o e later =
    subst (λ (x : ℕ × Lex). Munches BeforeUnary k (b ∷ w) (take x.0 (c ∷ text)) (drop x.0 (c ∷ text))) (sym (along_cons l c text None o)) (stops (b ∷ w) c text (sym (begins_same k b (w ++ c ∷ []) no_mark) ∙ ap is_state (one_more Begin l (b ∷ w) c e ∙ o)))
operand_step c text l b w k (Some next) no_mark o e later =
    let here : lexed Begin ((b ∷ w) ++ c ∷ []) ≡ Some next = one_more Begin l (b ∷ w) c e ∙ o in
    subst (λ (x : ℕ × Lex). Munches BeforeUnary k (b ∷ w) (take x.0 (c ∷ text)) (drop x.0 (c ∷ text))) (sym (along_cons l c text (Some next) o)) (more c (sym (begins_same k b (w ++ c ∷ []) no_mark) ∙ ap is_state here) (later next here))

operand_munches : (text : List ℕ) (l : Lex) (b : ℕ) (w : List ℕ) (k : Kept) → (b == 40) ≡ false → lexed Begin (b ∷ w) ≡ Some l → Munches BeforeUnary k (b ∷ w) (take (lex_along l text).0 text) (drop (lex_along l text).0 text)
unfolding lex_along
operand_munches [] l b w k no_mark e = ends (b ∷ w)
operand_munches (c ∷ text) l b w k no_mark e = operand_step c text l b w k (lex l c) no_mark refl e (λ next here. operand_munches text next b (w ++ c ∷ []) k no_mark here)

first_step : (c : ℕ) (text : List ℕ) (k : Kept) (o : Option Lex) → (c == 40) ≡ false → lex Begin c ≡ o → Munches BeforeUnary k [] (take (lex_along Begin (c ∷ text)).0 (c ∷ text)) (drop (lex_along Begin (c ∷ text)).0 (c ∷ text))
first_step c text k None no_mark o =
    subst (λ (x : ℕ × Lex). Munches BeforeUnary k [] (take x.0 (c ∷ text)) (drop x.0 (c ∷ text))) (sym (along_cons Begin c text None o)) (stops [] c text (sym (begins_same k c [] no_mark) ∙ ap is_state o))
first_step c text k (Some next) no_mark o =
    subst (λ (x : ℕ × Lex). Munches BeforeUnary k [] (take x.0 (c ∷ text)) (drop x.0 (c ∷ text))) (sym (along_cons Begin c text (Some next) o)) (more c (sym (begins_same k c [] no_mark) ∙ ap is_state o) (operand_munches text next c [] k no_mark o))

pub unary_length : (c : ℕ) (text : List ℕ) (k : Kept) → (c == 40) ≡ false → Munches BeforeUnary k [] (take (lex_along Begin (c ∷ text)).0 (c ∷ text)) (drop (lex_along Begin (c ∷ text)).0 (c ∷ text))
unary_length c text k no_mark = first_step c text k (lex Begin c) no_mark refl

pub mark_length : (text : List ℕ) (k : Kept) → Munches BeforeUnary k [] (40 ∷ []) text
mark_length [] k = more 40 refl (ends (40 ∷ []))
mark_length (c ∷ text) k = more 40 refl (stops (40 ∷ []) c text refl)
