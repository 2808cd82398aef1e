-- The tokens: each begins as one, is known at its end, and can be completed.
use Rattle.std.proofs.Common.{◌≡◌, ℕ, ◌==◌, Bool, true, false, List, [], ◌∷◌, ◌++◌, Option, Some, None, refl, sym, ap, subst, ◌∙◌, inl, inr, append_assoc}
use Rattle.std.specs.Prelude.{not}
use Rattle.std.specs.List.{list_all}
use Rattle.std.specs.Str.{bytes_eq}
use Rattle.std.proofs.lemmas.List.Folds.{list_all-append}
use Rattle.std.proofs.lemmas.Bool.{and_parts, and_from, or_cases, or_left, or_right, eqb-true, eq-eqb, false_from_ne_true}
use Rattle.query_grammar.specs.declared.lex.Quote.TheVariants.{Double, Single}
use Rattle.query_grammar.specs.declared.lex.Lex.{Lex}
use Rattle.query_grammar.specs.declared.lex.Part.TheVariants.{Prefix, Operand}
use Rattle.query_grammar.specs.declared.lex.Lex.TheVariants.{Begin, LevelOpen, Level, LevelSign, NameNext, InName, TextNext, InWord, InQuote, Escape, TextDone, FieldOpen, Field, Done}
use Rattle.query_grammar.specs.Lexical.{lex, lexed, lexed_from, may_end, is_state, is_last, begins_from, whole_from, is_prefix, is_one_of, begins_one_of}

pub same_bytes : (xs ys : List ℕ) → bytes_eq xs ys ≡ true → xs ≡ ys
same_bytes [] [] e = refl
same_bytes (x ∷ xs) (y ∷ ys) e =
    let both = and_parts (x == y) (bytes_eq xs ys) e in
    let head : x ≡ y = eqb-true x y both.0 in
    let rest : xs ≡ ys = same_bytes xs ys both.1 in
    cc
same_bytes _ _ e = absurd cc

-- a test on bytes that differs tells bytes apart
pub other_bytes : (test : List ℕ → Bool) (w v : List ℕ) → test w ≡ true → test v ≡ false → bytes_eq w v ≡ false
other_bytes test w v yes_w no_v = false_from_ne_true (bytes_eq w v) (λ e. let same = ap test (same_bytes w v e) in absurd cc)

-- ---- bytes without a line feed

-- whether no byte is a line feed
abbrev pub is_plain : List ℕ → Bool
is_plain w = list_all (λ c. not (c == 10)) w

-- bytes without a line feed behind others without one
pub plain_append : (p q : List ℕ) → is_plain p ≡ true → is_plain q ≡ true → is_plain (p ++ q) ≡ true
plain_append p q e f = list_all-append (λ c. not (c == 10)) p q ∙ and_from (is_plain p) (is_plain q) e f

-- both parts of bytes without a line feed have none
pub plain_parts : (p q : List ℕ) → is_plain (p ++ q) ≡ true → (is_plain p ≡ true) × (is_plain q ≡ true)
plain_parts p q e = and_parts (is_plain p) (is_plain q) (sym (list_all-append (λ c. not (c == 10)) p q) ∙ e)

-- what completes bytes to a word without a line feed has none
pub plain_word : (w more v : List ℕ) → bytes_eq (w ++ more) v ≡ true → is_plain v ≡ true → is_plain more ≡ true
plain_word w more v same plain = (plain_parts w more (ap is_plain (same_bytes (w ++ more) v same) ∙ plain)).1

-- ---- a criterion and an operand

from_none : (w : List ℕ) → lexed_from w None ≡ None
from_none [] = refl
from_none (c ∷ w) = refl

pub lexed-append : (p q : List ℕ) (o : Option Lex) → lexed_from (p ++ q) o ≡ lexed_from q (lexed_from p o)
lexed-append [] q o = refl
lexed-append (c ∷ p) q None = sym (from_none q)
lexed-append (c ∷ p) q (Some l) = lexed-append p q (lex l c)

state_front : (q : List ℕ) (o : Option Lex) → is_state (lexed_from q o) ≡ true → is_state o ≡ true
state_front [] o e = e
state_front (c ∷ q) None e = e
state_front (c ∷ q) (Some l) e = refl

last_state : (o : Option Lex) → is_last o ≡ true → is_state o ≡ true
last_state None e = e
last_state (Some l) e = refl

-- what begins with more begins
begins_front : (l : Lex) (p q : List ℕ) → begins_from l (p ++ q) ≡ true → begins_from l p ≡ true
begins_front l p q e = state_front q (lexed_from p (Some l)) (ap is_state (sym (lexed-append p q (Some l))) ∙ e)

pub whole_begins : (l : Lex) (w : List ℕ) → whole_from l w ≡ true → begins_from l w ≡ true
whole_begins l w e = last_state (lexed l w) e

pub whole_grows : (l : Lex) (w p : List ℕ) (c : ℕ) (q : List ℕ) → whole_from l w ≡ true → w ≡ p ++ c ∷ q → begins_from l (p ++ c ∷ []) ≡ true
whole_grows l w p c q e parts =
    let longer : w ≡ (p ++ c ∷ []) ++ q = parts ∙ sym (append_assoc p (c ∷ []) q) in
    begins_front l (p ++ c ∷ []) q (subst (λ (x : List ℕ). begins_from l x ≡ true) longer (whole_begins l w e))

-- each state can be completed, without a line feed
completion : (l : Lex) → (more : List ℕ) × (whole_from l more ≡ true) × (is_plain more ≡ true)
completion LevelOpen = (48 ∷ 125 ∷ 97 ∷ [], refl, refl)
completion Level = (125 ∷ 97 ∷ [], refl, refl)
completion LevelSign = (125 ∷ 97 ∷ [], refl, refl)
completion (InQuote p Double) = (34 ∷ [], refl, refl)
completion (InQuote p Single) = (39 ∷ [], refl, refl)
completion (Escape p Double) = (97 ∷ 34 ∷ [], refl, refl)
completion (Escape p Single) = (97 ∷ 39 ∷ [], refl, refl)
completion FieldOpen = (49 ∷ 93 ∷ [], refl, refl)
completion Field = (93 ∷ [], refl, refl)
completion Begin = (97 ∷ [], refl, refl)
completion NameNext = (97 ∷ [], refl, refl)
completion (TextNext p) = (97 ∷ [], refl, refl)
completion _ = ([], refl, refl)

complete_option : (o : Option Lex) → is_state o ≡ true → (more : List ℕ) × (is_last (lexed_from more o) ≡ true) × (is_plain more ≡ true)
complete_option None e = absurd cc
complete_option (Some l) e = completion l

-- what has begun can be completed, without a line feed
pub completed : (l : Lex) (w : List ℕ) → begins_from l w ≡ true → (more : List ℕ) × (whole_from l (w ++ more) ≡ true) × (is_plain more ≡ true)
completed l w e =
    let m = complete_option (lexed l w) e in
    (m.0, ap is_last (lexed-append w m.0 (Some l)) ∙ m.1, m.2)

-- neither `=` nor a blank goes on with what may end
ends_equal : (l : Lex) → may_end l ≡ true → lex l 61 ≡ None
ends_equal InName e = refl
ends_equal (InWord Prefix) e = refl
ends_equal (InWord Operand) e = refl
ends_equal (TextDone Prefix) e = refl
ends_equal (TextDone Operand) e = refl
ends_equal Done e = refl
ends_equal _ e = absurd cc

ends_blank : (l : Lex) → may_end l ≡ true → lex l 32 ≡ None
ends_blank InName e = refl
ends_blank (InWord Prefix) e = refl
ends_blank (InWord Operand) e = refl
ends_blank (TextDone Prefix) e = refl
ends_blank (TextDone Operand) e = refl
ends_blank Done e = refl
ends_blank _ e = absurd cc

no_state : (c : ℕ) (o : Option Lex) → is_last o ≡ true → ((l : Lex) → may_end l ≡ true → lex l c ≡ None) → is_state (lexed_from (c ∷ []) o) ≡ false
no_state c None e none = refl
no_state c (Some l) e none = ap is_state (none l e)

over_by : (c : ℕ) (l : Lex) (w : List ℕ) → whole_from l w ≡ true → ((n : Lex) → may_end n ≡ true → lex n c ≡ None) → begins_from l (w ++ c ∷ []) ≡ false
over_by c l w e none = ap is_state (lexed-append w (c ∷ []) (Some l)) ∙ no_state c (lexed l w) e none

pub over_equal : (l : Lex) (w : List ℕ) → whole_from l w ≡ true → begins_from l (w ++ 61 ∷ []) ≡ false
over_equal l w e = over_by 61 l w e ends_equal

pub over_blank : (l : Lex) (w : List ℕ) → whole_from l w ≡ true → begins_from l (w ++ 32 ∷ []) ≡ false
over_blank l w e = over_by 32 l w e ends_blank

-- ---- words

abbrev pub AllOf : (List ℕ → Type 0) → List (List ℕ) → Type 0
AllOf P [] = Unit {0}
AllOf P (v ∷ vs) = P v × AllOf P vs

pub one_of : (P : List ℕ → Type 0) (vs : List (List ℕ)) (w : List ℕ) → AllOf P vs → is_one_of vs w ≡ true → P w
one_of P [] w all e = absurd cc
one_of P (v ∷ vs) w all e =
    elim (or_cases (bytes_eq w v) (is_one_of vs w) e) [
      | inl same ↦ subst P (sym (same_bytes w v same)) all.0
      | inr later ↦ one_of P vs w all.1 later
    ]

front_of : (p q : List ℕ) → is_prefix p (p ++ q) ≡ true
front_of [] q = refl
front_of (c ∷ p) q = and_from (c == c) (is_prefix p (p ++ q)) (eq-eqb c c refl) (front_of p q)

pub begins_one : (vs : List (List ℕ)) (w p q : List ℕ) → is_one_of vs w ≡ true → w ≡ p ++ q → begins_one_of vs p ≡ true
begins_one [] w p q e parts = absurd cc
begins_one (v ∷ vs) w p q e parts =
    elim (or_cases (bytes_eq w v) (is_one_of vs w) e) [
      | inl same ↦ or_left (is_prefix p v) (begins_one_of vs p) (subst (λ (x : List ℕ). is_prefix p x ≡ true) (sym parts ∙ same_bytes w v same) (front_of p q))
      | inr later ↦ or_right (is_prefix p v) (begins_one_of vs p) (begins_one vs w p q later parts)
    ]

front_rest : (p v : List ℕ) → is_prefix p v ≡ true → (more : List ℕ) × (v ≡ p ++ more)
front_rest [] v e = (v, refl)
front_rest (c ∷ p) [] e = absurd cc
front_rest (c ∷ p) (d ∷ v) e =
    let both = and_parts (c == d) (is_prefix p v) e in
    let head : c ≡ d = eqb-true c d both.0 in
    let r = front_rest p v both.1 in
    let rest : v ≡ p ++ r.0 = r.1 in
    (r.0, cc)

-- what begins one of the words can be completed to it
pub completed_one : (P : List ℕ → Type 0) (vs : List (List ℕ)) (w : List ℕ) → AllOf P vs → begins_one_of vs w ≡ true → (more : List ℕ) × P (w ++ more)
completed_one P [] w all e = absurd cc
completed_one P (v ∷ vs) w all e =
    elim (or_cases (is_prefix w v) (begins_one_of vs w) e) [
      | inl prefix ↦ let r = front_rest w v prefix in (r.0, subst P r.1 all.0)
      | inr later ↦ completed_one P vs w all.1 later
    ]
