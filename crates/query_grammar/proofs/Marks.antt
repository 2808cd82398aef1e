-- How tokens are known where they may stand.
use Rattle.std.proofs.Common.{◌≡◌, ℕ, ◌==◌, ◌&&◌, ◌||◌, not, Bool, true, false, List, [], ◌∷◌, ◌++◌, Option, Some, None, refl, sym, subst, ◌∙◌, inl, inr, arith, append_assoc}
use Rattle.std.specs.Prelude.{codes}
use Rattle.std.specs.Str.{bytes_eq}
use Rattle.std.proofs.lemmas.Bool.{and_parts, and_from, or_parts, or_cases, or_from, or_left, or_right, cond_both, cond-true, cond-false, not-true, not_from_false, eqb-true}
use Rattle.std.proofs.lemmas.Bool.Decides.{nat_tests}
use Rattle.query_grammar.specs.declared.mode.Mode.{Mode}
use Rattle.query_grammar.specs.declared.mode.Mode.TheVariants.{BeforeUnary, AfterCriterion, BeforeOperand, AfterUnary}
use Rattle.query_grammar.specs.declared.mode.Waiting.{Waiting}
use Rattle.query_grammar.specs.declared.mode.Waiting.TheVariants as waits
use Rattle.query_grammar.specs.Step.{Step}
use Rattle.query_grammar.specs.declared.step.StepOver.TheVariants as steps
use Rattle.query_grammar.specs.declared.lex.Lex.TheVariants.{Begin, InName}
use Rattle.query_grammar.specs.Bytes.{is_blank, is_name_byte}
use Rattle.query_grammar.specs.Lexical.{operand_begin, lex, begins_from, whole_from, is_one_of, begins_one_of, operators, words, ends_word}
use Rattle.query_grammar.specs.Grammar.{Token, CriterionToken, OperatorToken, OperandToken, NotWord, AndWord, OrWord, OpenMark, CloseMark, token_text, is_token, is_over, is_ended, operator_words}
use Rattle.query_grammar.specs.Moves.{Kept, State, can_close, closes, tightened, loosened, tested, taken, taken_after_unary}
use Rattle.query_grammar.specs.Scanner.{joining, begins, begins_after_unary, whole, whole_after_unary}
use Rattle.query_grammar.proofs.Tokens.{some_is, some_none}
use Rattle.query_grammar.proofs.Lexing.{same_bytes, other_bytes, whole_grows, one_of, begins_one}

-- ---- a token is known at its end

fits_after : (t : Token) (k : Kept) (x : State) (rest : List ℕ) → is_ended t rest ≡ true → taken_after_unary k t ≡ Some x → whole_after_unary (token_text t) rest ≡ Some t
fits_after AndWord k x rest over e = cond-true (ends_word rest) _ _ over
fits_after OrWord k x rest over e = cond-true (ends_word rest) _ _ over
fits_after CloseMark k x rest over e = refl
fits_after _ _ x _ _ e = absurd (some_none x e)

fits_criterion : (w rest : List ℕ) → whole_from Begin w ≡ true → is_ended (CriterionToken w) rest ≡ true → whole BeforeUnary w rest ≡ Some (CriterionToken w)
fits_criterion w rest good over =
    let parts = and_parts (is_over (begins_from Begin) w rest) (not (is_one_of words w && ends_word rest)) over in
    let word : (is_one_of words w && ends_word rest) ≡ false = not-true _ parts.1 in
    let no_not : (bytes_eq w (codes "not") && ends_word rest) ≡ false = grind (arith, nat_tests) in
    cond-false (bytes_eq w (codes "(")) _ _ (other_bytes (whole_from Begin) w (codes "(") good refl)
    ∙ cond-false (bytes_eq w (codes "not") && ends_word rest) _ _ no_not
    ∙ cond-false (is_one_of words w && ends_word rest) _ _ word
    ∙ cond-true (whole_from Begin w) _ _ good

pub fits : (m : Mode) (t : Token) (k : Kept) (x : State) (rest : List ℕ) → is_token t ≡ true → is_ended t rest ≡ true → taken m k t ≡ Some x → whole m (token_text t) rest ≡ Some t
fits BeforeUnary (CriterionToken w) k x rest good over e = fits_criterion w rest good over
fits BeforeUnary NotWord k x rest good over e = cond-true (ends_word rest) _ _ over
fits BeforeUnary OpenMark k x rest good over e = refl
fits AfterCriterion (OperatorToken w) k x rest good over e =
    let parts = and_parts (is_over (begins_one_of operators) w rest) (not (is_one_of operator_words w) || ends_word rest) over in
    cond-true (is_one_of operators w && (not (is_one_of operator_words w) || ends_word rest)) _ _ (and_from _ _ good parts.1)
fits AfterCriterion AndWord k x rest good over e = cond-true (ends_word rest) _ _ over
fits AfterCriterion OrWord k x rest good over e = cond-true (ends_word rest) _ _ over
fits AfterCriterion CloseMark k x rest good over e = refl
fits BeforeOperand (OperandToken w) k x rest good over e = cond-true (whole_from operand_begin w) _ _ good
fits AfterUnary t k x rest good over e = fits_after t k x rest over e
fits _ _ _ x _ _ _ e = absurd (some_none x e)

-- ---- a token's bytes go on

single : (d c : ℕ) (p q : List ℕ) → d ∷ [] ≡ p ++ c ∷ q → d ∷ [] ≡ p ++ c ∷ []
single d c [] q e = let head : d ≡ c = cc in cc
single d c (b ∷ []) q e = absurd cc
single d c (b ∷ a ∷ p) q e = absurd cc

closes_can : (ws : List Waiting) (done : List Step) (x : State) → closes (loosened ws done) ≡ Some x → can_close ws ≡ true
closes_can [] done x e = absurd (some_none x e)
closes_can (waits.Open ∷ ws) done x e = refl
closes_can (waits.Not ∷ ws) done x e = closes_can ws (done ++ steps.Not ∷ []) x e
closes_can (waits.And ∷ ws) done x e = closes_can ws (done ++ steps.And ∷ []) x e
closes_can (waits.Or ∷ ws) done x e = closes_can ws (done ++ steps.Or ∷ []) x e

pub tightened_can : (ws : List Waiting) (done : List Step) → can_close (tightened ws done).0 ≡ can_close ws
tightened_can [] done = refl
tightened_can (waits.Open ∷ ws) done = refl
tightened_can (waits.Not ∷ ws) done = tightened_can ws (done ++ steps.Not ∷ [])
tightened_can (waits.And ∷ ws) done = tightened_can ws (done ++ steps.And ∷ [])
tightened_can (waits.Or ∷ ws) done = refl

grows_close : (k : Kept) (p : List ℕ) (c : ℕ) (q : List ℕ) → can_close k.waiting ≡ true → codes ")" ≡ p ++ c ∷ q → begins_after_unary k (p ++ c ∷ []) ≡ true
grows_close k p c q can parts =
    subst (λ (w : List ℕ). begins_after_unary k w ≡ true) (single 41 c p q parts) can

grows_joining : (k : Kept) (w p : List ℕ) (c : ℕ) (q : List ℕ) → is_one_of joining w ≡ true → w ≡ p ++ c ∷ q → begins_after_unary k (p ++ c ∷ []) ≡ true
grows_joining k w p c q one parts =
    or_left (begins_one_of joining (p ++ c ∷ [])) _ (begins_one joining w (p ++ c ∷ []) q one (parts ∙ sym (append_assoc p (c ∷ []) q)))

grows_after : (t : Token) (k : Kept) (x : State) (p : List ℕ) (c : ℕ) (q : List ℕ) → taken_after_unary k t ≡ Some x → token_text t ≡ p ++ c ∷ q → begins_after_unary k (p ++ c ∷ []) ≡ true
grows_after AndWord k x p c q e parts = grows_joining k (codes "and") p c q refl parts
grows_after OrWord k x p c q e parts = grows_joining k (codes "or") p c q refl parts
grows_after CloseMark k x p c q e parts = grows_close k p c q (closes_can k.waiting k.steps x e) parts
grows_after _ _ x _ _ _ e _ = absurd (some_none x e)

-- behind a criterion, the same as behind the test
named_after : (k : Kept) (w : List ℕ) → begins_after_unary (tested k []).1 w ≡ true → begins AfterCriterion k w ≡ true
named_after k w e =
    or_right (begins_one_of operators w) (begins_after_unary k w) (subst (λ (b : Bool). (begins_one_of joining w || (bytes_eq w (codes ")") && b)) ≡ true) (tightened_can k.waiting _) e)

pub grows : (m : Mode) (t : Token) (k : Kept) (x : State) (p : List ℕ) (c : ℕ) (q : List ℕ) → is_token t ≡ true → taken m k t ≡ Some x → token_text t ≡ p ++ c ∷ q → begins m k (p ++ c ∷ []) ≡ true
grows BeforeUnary (CriterionToken w) k x p c q good e parts = or_right (bytes_eq (p ++ c ∷ []) (codes "(")) _ (whole_grows Begin w p c q good parts)
grows BeforeUnary NotWord k x p c q good e parts = or_right (bytes_eq (p ++ c ∷ []) (codes "(")) _ (whole_grows Begin (codes "not") p c q refl parts)
grows BeforeUnary OpenMark k x p c q good e parts = subst (λ (w : List ℕ). begins BeforeUnary k w ≡ true) (single 40 c p q parts) refl
grows AfterCriterion (OperatorToken w) k x p c q good e parts = or_left (begins_one_of operators (p ++ c ∷ [])) _ (begins_one operators w (p ++ c ∷ []) q good (parts ∙ sym (append_assoc p (c ∷ []) q)))
grows AfterCriterion AndWord k x p c q good e parts = named_after k (p ++ c ∷ []) (grows_after AndWord (tested k []).1 x p c q e parts)
grows AfterCriterion OrWord k x p c q good e parts = named_after k (p ++ c ∷ []) (grows_after OrWord (tested k []).1 x p c q e parts)
grows AfterCriterion CloseMark k x p c q good e parts = named_after k (p ++ c ∷ []) (grows_after CloseMark (tested k []).1 x p c q e parts)
grows BeforeOperand (OperandToken w) k x p c q good e parts = whole_grows operand_begin w p c q good parts
grows AfterUnary t k x p c q good e parts = grows_after t k x p c q e parts
grows _ _ _ x _ _ _ _ e _ = absurd (some_none x e)

-- ---- a token that has ended goes on no more

-- a byte that ends a word is no byte of a criterion
ends_name : (c : ℕ) → ends_word (c ∷ []) ≡ true → (is_name_byte c ≡ false) × ((c == 44) ≡ false) × ((c == 58) ≡ false) × ((c == 91) ≡ false)
ends_name c e = (grind (arith, nat_tests), grind (arith, nat_tests), grind (arith, nat_tests), grind (arith, nat_tests))

over_not : (k : Kept) (c : ℕ) → ends_word (c ∷ []) ≡ true → begins BeforeUnary k (110 ∷ 111 ∷ 116 ∷ c ∷ []) ≡ false
over_not k c e =
    let n = ends_name c e in
    let none : lex InName c ≡ None = cond-false (is_name_byte c) _ _ n.0 ∙ cond-false (c == 44) _ _ n.1 ∙ cond-false (c == 58) _ _ n.2 ∙ cond-false (c == 91) _ _ n.3 in
    rw none refl

-- two bytes or more are no parenthesis
longer : (w : List ℕ) (d c : ℕ) → bytes_eq ((d ∷ w) ++ c ∷ []) (codes "(") ≡ false
longer [] d c = grind (arith, nat_tests)
longer (b ∷ w) d c = grind (arith, nat_tests)

over_criterion : (k : Kept) (w : List ℕ) (c : ℕ) → whole_from Begin w ≡ true → begins_from Begin (w ++ c ∷ []) ≡ false → begins BeforeUnary k (w ++ c ∷ []) ≡ false
over_criterion k [] c good over = absurd cc
over_criterion k (d ∷ w) c good over = or_from (bytes_eq ((d ∷ w) ++ c ∷ []) (codes "(")) _ (longer w d c) over

over_sign : (k : Kept) (w : List ℕ) (c : ℕ) → is_one_of operators w ≡ true → begins_after_unary k (w ++ c ∷ []) ≡ false
over_sign k w c good = one_of (λ v. begins_after_unary k (v ++ c ∷ []) ≡ false) operators w (refl, (refl, (refl, (refl, (refl, (refl, (refl, (refl, (refl, (refl, tt)))))))))) good

pub over : (m : Mode) (t : Token) (k : Kept) (x : State) (c : ℕ) (rest : List ℕ) → is_token t ≡ true → is_ended t (c ∷ rest) ≡ true → taken m k t ≡ Some x → begins m k (token_text t ++ c ∷ []) ≡ false
over BeforeUnary (CriterionToken w) k x c rest good ended e =
    let parts = and_parts (not (begins_from Begin (w ++ c ∷ []))) (not (is_one_of words w && ends_word (c ∷ rest))) ended in
    over_criterion k w c good (not-true _ parts.0)
over BeforeUnary NotWord k x c rest good ended e = over_not k c ended
over BeforeUnary OpenMark k x c rest good ended e = refl
over AfterCriterion (OperatorToken w) k x c rest good ended e =
    let parts = and_parts (not (begins_one_of operators (w ++ c ∷ []))) (not (is_one_of operator_words w) || ends_word (c ∷ rest)) ended in
    or_from (begins_one_of operators (w ++ c ∷ [])) _ (not-true _ parts.0) (over_sign k w c good)
over AfterCriterion AndWord k x c rest good ended e = refl
over AfterCriterion OrWord k x c rest good ended e = refl
over AfterCriterion CloseMark k x c rest good ended e = refl
over BeforeOperand (OperandToken w) k x c rest good ended e = not-true _ ended
over AfterUnary AndWord k x c rest good ended e = refl
over AfterUnary OrWord k x c rest good ended e = refl
over AfterUnary CloseMark k x c rest good ended e = refl
over _ _ _ x _ _ _ _ e = absurd (some_none x e)

-- ---- what is known as a token is one

-- what a token that is known says
pub record Known (t : Token) (w rest : List ℕ) : Type 0 where
  pub text : token_text t ≡ w
  pub good : is_token t ≡ true
  pub ended : is_ended t rest ≡ true

-- nothing follows, or what follows doesn't go on
abbrev pub NoMore : Mode → Kept → List ℕ → List ℕ → Type 0
NoMore m k w [] = Unit {0}
NoMore m k w (c ∷ rest) = begins m k (w ++ c ∷ []) ≡ false

known : (t : Token) (w rest : List ℕ) → token_text t ≡ w → is_token t ≡ true → is_ended t rest ≡ true → (u : Token) → Some t ≡ Some u → Known u w rest
known t w rest text good ended u e = subst (λ (v : Token). Known v w rest) (some_is t u e) (record { text = text; good = good; ended = ended })

over_from : (begins_it : List ℕ → Bool) (m : Mode) (k : Kept) (w rest : List ℕ) → NoMore m k w rest → ((v : List ℕ) → begins m k v ≡ false → begins_it v ≡ false) → is_over begins_it w rest ≡ true
over_from begins_it m k w [] none less = refl
over_from begins_it m k w (c ∷ rest) none less = not_from_false _ (less (w ++ c ∷ []) none)

known_after : (w rest : List ℕ) (t : Token) → whole_after_unary w rest ≡ Some t → Known t w rest
known_after w rest t =
    let P : Option Token → Type 0 = λ o. o ≡ Some t → Known t w rest in
    cond_both (bytes_eq w (codes ")")) _ _ P (λ b e. known CloseMark w rest (sym (same_bytes w (codes ")") b)) refl refl t e) (λ b.
    cond_both (bytes_eq w (codes "and") && ends_word rest) _ _ P
    (λ a e. let both = and_parts (bytes_eq w (codes "and")) (ends_word rest) a in known AndWord w rest (sym (same_bytes w (codes "and") both.0)) refl both.1 t e) (λ a.
    cond_both (bytes_eq w (codes "or") && ends_word rest) _ _ P
    (λ o e. let both = and_parts (bytes_eq w (codes "or")) (ends_word rest) o in known OrWord w rest (sym (same_bytes w (codes "or") both.0)) refl both.1 t e)
    (λ o e. absurd (some_none t e))))

known_operand : (k : Kept) (w rest : List ℕ) (t : Token) → NoMore BeforeUnary k w rest → whole BeforeUnary w rest ≡ Some t → Known t w rest
known_operand k w rest t none =
    let P : Option Token → Type 0 = λ o. o ≡ Some t → Known t w rest in
    cond_both (bytes_eq w (codes "(")) _ _ P (λ b e. known OpenMark w rest (sym (same_bytes w (codes "(") b)) refl refl t e) (λ b.
    cond_both (bytes_eq w (codes "not") && ends_word rest) _ _ P
    (λ a e. let both = and_parts (bytes_eq w (codes "not")) (ends_word rest) a in known NotWord w rest (sym (same_bytes w (codes "not") both.0)) refl both.1 t e) (λ a.
    cond_both (is_one_of words w && ends_word rest) _ _ P (λ o e. absurd (some_none t e)) (λ o.
    cond_both (whole_from Begin w) _ _ P
    (λ g e. known (CriterionToken w) w rest refl g (and_from _ _ (over_from (begins_from Begin) BeforeUnary k w rest none (λ v h. (or_parts (bytes_eq v (codes "(")) (begins_from Begin v) h).1)) (not_from_false _ o)) t e)
    (λ g e. absurd (some_none t e)))))

known_named : (k : Kept) (w rest : List ℕ) (t : Token) → NoMore AfterCriterion k w rest → whole AfterCriterion w rest ≡ Some t → Known t w rest
known_named k w rest t none =
    let P : Option Token → Type 0 = λ o. o ≡ Some t → Known t w rest in
    cond_both (is_one_of operators w && (not (is_one_of operator_words w) || ends_word rest)) _ _ P
    (λ a e.
    let both = and_parts (is_one_of operators w) (not (is_one_of operator_words w) || ends_word rest) a in
    known (OperatorToken w) w rest refl both.0 (and_from _ _ (over_from (begins_one_of operators) AfterCriterion k w rest none (λ v h. (or_parts (begins_one_of operators v) (begins_after_unary k v) h).0)) both.1) t e)
    (λ a e. known_after w rest t e)

known_value : (k : Kept) (w rest : List ℕ) (t : Token) → NoMore BeforeOperand k w rest → whole BeforeOperand w rest ≡ Some t → Known t w rest
known_value k w rest t none =
    let P : Option Token → Type 0 = λ o. o ≡ Some t → Known t w rest in
    cond_both (whole_from operand_begin w) _ _ P
    (λ g e. known (OperandToken w) w rest refl g (over_from (begins_from operand_begin) BeforeOperand k w rest none (λ v h. h)) t e)
    (λ g e. absurd (some_none t e))

pub is_known : (m : Mode) (k : Kept) (w rest : List ℕ) (t : Token) → NoMore m k w rest → whole m w rest ≡ Some t → Known t w rest
is_known BeforeUnary k w rest t none e = known_operand k w rest t none e
is_known AfterCriterion k w rest t none e = known_named k w rest t none e
is_known BeforeOperand k w rest t none e = known_value k w rest t none e
is_known AfterUnary k w rest t none e = known_after w rest t e

-- ---- a blank begins nothing

pub blank_cases : (P : ℕ → Type 0) → P 32 → P 9 → P 13 → (c : ℕ) → is_blank c ≡ true → P c
blank_cases P space tab return c e =
    elim (or_cases ((c == 32) || (c == 9)) (c == 13) e) [
      | inl two ↦ elim (or_cases (c == 32) (c == 9) two) [
        | inl one ↦ subst P (sym (eqb-true c 32 one)) space
        | inr one ↦ subst P (sym (eqb-true c 9 one)) tab
      ]
      | inr one ↦ subst P (sym (eqb-true c 13 one)) return
    ]

pub no_blank : (m : Mode) (k : Kept) (c : ℕ) → is_blank c ≡ true → begins m k (c ∷ []) ≡ false
no_blank BeforeUnary k c e = blank_cases (λ b. begins BeforeUnary k (b ∷ []) ≡ false) refl refl refl c e
no_blank AfterCriterion k c e = blank_cases (λ b. begins AfterCriterion k (b ∷ []) ≡ false) refl refl refl c e
no_blank BeforeOperand k c e = blank_cases (λ b. begins BeforeOperand k (b ∷ []) ≡ false) refl refl refl c e
no_blank AfterUnary k c e = blank_cases (λ b. begins AfterUnary k (b ∷ []) ≡ false) refl refl refl c e
