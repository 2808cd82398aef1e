-- Going along the bytes of a criterion: its bracket, its names, and the first of its faults.
use Rattle.std.proofs.Common.{◌≡◌, ℕ, suc, ◌+◌, ◌<◌, ◌==◌, Bool, true, false, cond, List, [], ◌∷◌, ◌++◌, ◌-◌, length, get_or, take, drop, Option, Some, None, option_map, refl, sym, ap, ◌∙◌, drop-cons, append_assoc, arith}
use Rattle.std.specs.Prelude.{Result, Ok, Err, IfErr, IsErrAnd}
use Rattle.std.specs.List.{list_all}
use Rattle.std.specs.Option.{option_or}
use Rattle.std.proofs.lemmas.List.{append-nil, length-drop}
use Rattle.std.proofs.lemmas.Bool.{and_from, cond_both, cond-true, cond-false}
use Rattle.query_grammar.specs.declared.lex.Lex.{Lex}
use Rattle.query_grammar.specs.declared.lex.Lex.TheVariants.{Begin, FieldOpen}
use Rattle.query_grammar.specs.Bytes.{is_name_byte}
use Rattle.query_grammar.specs.Lexical.{lex}
use Rattle.query_grammar.specs.Scanner.{Fault}
use Rattle.query_grammar.specs.Judging.{name_fault, names_fault, behind_level, tags_fault, is_field_open, field_fault, field_value}
use Rattle.query_parser.specs.declared.criterion.Kind.TheVariants.{InLevel}
use Rattle.query_parser.specs.declared.fault.QueryFault.{QueryFault}
use Rattle.query_parser.specs.declared.fault.QueryFault.TheVariants.{Syntax, UnknownTag, Number, Pattern, Deep, NoMemory}
use Rattle.query_parser.specs.Answers.{IsAnswer}
use Rattle.query_parser.specs.inside.Pieces.{is_of, leading, bracket_from, bracket, behind_brace, behind_comma, begins_with_comma, without_first, level_rest}

-- a state that opens no field
pub no_field_open : (l : Lex) → (l ≡ FieldOpen → ⊥) → is_field_open (Some l) ≡ false
no_field_open FieldOpen other = absurd (other refl)
no_field_open _ _ = refl

-- what is left begins with the next byte
cut_at : (i : ℕ) (text : List ℕ) → i < length text → drop i text ≡ get_or text i 0 ∷ drop (i + 1) text
cut_at i text lt =
    let one : suc i ≡ i + 1 = omega arith in
    drop-cons text i 0 lt ∙ ap (λ (m : ℕ). get_or text i 0 ∷ drop m text) one

-- ---- the bracket of a field

-- a place behind some bytes
abbrev pub behind : ℕ → Option ℕ → Option ℕ
behind n o = option_map (λ m. n + m) o

-- one byte more before a place
behind_suc : (n : ℕ) (o : Option ℕ) → behind n (option_map suc o) ≡ behind (n + 1) o
behind_suc n None = refl
behind_suc n (Some m) = let e : n + suc m ≡ (n + 1) + m = omega arith in ap Some e

-- a byte that opens no field is passed
pub bracket_more : (n i : ℕ) (l next : Lex) (text : List ℕ) → i < length text → lex l (get_or text i 0) ≡ Some next → is_field_open (Some next) ≡ false → behind (n + 1) (bracket_from (Some next) (drop (i + 1) text)) ≡ behind n (bracket_from (Some l) (drop i text))
bracket_more n i l next text lt e no_field =
    let first : bracket_from (Some l) (drop i text) ≡ option_map suc (bracket_from (lex l (get_or text i 0)) (drop (i + 1) text)) =
    ap (bracket_from (Some l)) (cut_at i text lt) ∙ cond-false (is_field_open (lex l (get_or text i 0))) _ _ (ap is_field_open e ∙ no_field) in
    sym (ap (behind n) (first ∙ ap (λ (o : Option Lex). option_map suc (bracket_from o (drop (i + 1) text))) e) ∙ behind_suc n (bracket_from (Some next) (drop (i + 1) text)))

-- the fault of the field behind its bracket
abbrev pub behind_bracket : ℕ → Option ℕ → List ℕ → Option Fault
behind_bracket at None text = None
behind_bracket at (Some n) text = field_value (at + n + 1) (drop (n + 1) text)

-- the fault behind a bracket, seen one byte earlier
bracket_step : (at : ℕ) (o : Option ℕ) (c : ℕ) (w : List ℕ) → behind_bracket (at + 1) o w ≡ behind_bracket at (option_map suc o) (c ∷ w)
bracket_step at None c w = refl
bracket_step at (Some n) c w =
    let place : at + 1 + n + 1 ≡ at + suc n + 1 = omega arith in
    let one : n + 1 ≡ suc n = omega arith in
    let two : suc n + 1 ≡ suc (suc n) = omega arith in
    rw (place, two, one) refl

-- the fault of a field is that of the bytes behind its bracket
field_is : (w : List ℕ) (at : ℕ) (o : Option Lex) → field_fault at o w ≡ behind_bracket at (bracket_from o w) w
field_is w at None = refl
field_is [] at (Some l) = refl
field_is (c ∷ w) at (Some l) =
    let same = field_is w (at + 1) (lex l c) in
    cond_both (is_field_open (lex l c)) (Some 0) (option_map suc (bracket_from (lex l c) w)) (λ (o : Option ℕ). cond (is_field_open (lex l c)) (field_value (at + 1) w) (field_fault (at + 1) (lex l c) w) ≡ behind_bracket at o (c ∷ w))
    (λ e. let none : at + 0 + 1 ≡ at + 1 = omega arith in cond-true (is_field_open (lex l c)) _ _ e ∙ ap (λ (m : ℕ). field_value m w) (sym none))
    (λ e. cond-false (is_field_open (lex l c)) _ _ e ∙ same ∙ bracket_step at (bracket_from (lex l c) w) c w)

-- without a bracket there is no fault of a field
pub field_none : (at : ℕ) (text : List ℕ) → bracket text ≡ None → field_fault at (Some Begin) text ≡ None
field_none at text e = field_is text at (Some Begin) ∙ ap (λ (o : Option ℕ). behind_bracket at o text) e

-- the fault of a field is that of what stands behind its bracket
pub field_some : (at n : ℕ) (text : List ℕ) → bracket text ≡ Some n → field_fault at (Some Begin) text ≡ field_value (at + n + 1) (drop (n + 1) text)
field_some at n text e = field_is text at (Some Begin) ∙ ap (λ (o : Option ℕ). behind_bracket at o text) e

-- ---- names

-- with no fault behind it, a fault is the first
or_none : (o : Option Fault) → o ≡ option_or o None
or_none None = refl
or_none (Some f) = refl

-- the bytes of a name are those of its kind
pub leading_all : (test : ℕ → Bool) (w : List ℕ) → list_all test (take (leading test w) w) ≡ true
leading_all test [] = refl
leading_all test (c ∷ w) =
    cond_both (test c) (suc (leading test w)) 0 (λ (n : ℕ). list_all test (take n (c ∷ w)) ≡ true)
    (λ e. and_from (test c) (list_all test (take (leading test w) w)) e (leading_all test w))
    (λ e. refl)

-- the fault of names is that of the first, or of those behind its comma
names_from : (is_tag : List ℕ → Bool) (w : List ℕ) (at from : ℕ) (name : List ℕ) → names_fault is_tag at from name w ≡ option_or (name_fault is_tag from (name ++ take (leading is_name_byte w) w)) (behind_comma is_tag (at + leading is_name_byte w) (drop (leading is_name_byte w) w))
names_from is_tag [] at from name = ap (name_fault is_tag from) (sym (append-nil name)) ∙ or_none (name_fault is_tag from (name ++ []))
names_from is_tag (c ∷ w) at from name =
    let same = names_from is_tag w (at + 1) from (name ++ c ∷ []) in
    cond_both (is_name_byte c) (suc (leading is_name_byte w)) 0 (λ (n : ℕ). names_fault is_tag at from name (c ∷ w) ≡ option_or (name_fault is_tag from (name ++ take n (c ∷ w))) (behind_comma is_tag (at + n) (drop n (c ∷ w))))
    (λ e.
    let whole : (name ++ c ∷ []) ++ take (leading is_name_byte w) w ≡ name ++ c ∷ take (leading is_name_byte w) w = append_assoc name (c ∷ []) (take (leading is_name_byte w) w) in
    let place : at + 1 + leading is_name_byte w ≡ at + suc (leading is_name_byte w) = omega arith in
    cond-true (is_name_byte c) _ _ e ∙ same
    ∙ ap (λ (v : List ℕ). option_or (name_fault is_tag from v) (behind_comma is_tag (at + 1 + leading is_name_byte w) (drop (leading is_name_byte w) w))) whole
    ∙ ap (λ (m : ℕ). option_or (name_fault is_tag from (name ++ c ∷ take (leading is_name_byte w) w)) (behind_comma is_tag m (drop (leading is_name_byte w) w))) place)
    (λ e.
    let none : at ≡ at + 0 = omega arith in
    cond-false (is_name_byte c) _ _ e
    ∙ ap (λ (v : List ℕ). option_or (name_fault is_tag from v) (behind_comma is_tag at (c ∷ w))) (sym (append-nil name))
    ∙ ap (λ (m : ℕ). option_or (name_fault is_tag from (name ++ [])) (behind_comma is_tag m (c ∷ w))) none)

-- the same where no byte of a name was read
pub names_is : (is_tag : List ℕ → Bool) (at : ℕ) (w : List ℕ) → names_fault is_tag at at [] w ≡ option_or (name_fault is_tag at (take (leading is_name_byte w) w)) (behind_comma is_tag (at + leading is_name_byte w) (drop (leading is_name_byte w) w))
names_is is_tag at w = names_from is_tag w at at []

-- a name without a fault leaves the fault of those behind its comma
pub names_behind_fine : (is_tag : List ℕ → Bool) (at n : ℕ) (w : List ℕ) → n ≡ leading is_name_byte w → name_fault is_tag at (take n w) ≡ None → names_fault is_tag at at [] w ≡ behind_comma is_tag (at + n) (drop n w)
names_behind_fine is_tag at n w same e =
    let first : name_fault is_tag at (take (leading is_name_byte w) w) ≡ None = ap (λ (m : ℕ). name_fault is_tag at (take m w)) (sym same) ∙ e in
    names_is is_tag at w ∙ ap (λ (o : Option Fault). option_or o (behind_comma is_tag (at + leading is_name_byte w) (drop (leading is_name_byte w) w))) first
    ∙ ap (λ (m : ℕ). behind_comma is_tag (at + m) (drop m w)) (sym same)

-- ---- a level

-- the brace, or a byte before it
brace_step : (is_tag : List ℕ → Bool) (c : ℕ) (w : List ℕ) (at : ℕ) (b : Bool) → (c == 125) ≡ b → behind_level is_tag (at + 1) w ≡ behind_brace is_tag (at + 1 + leading (is_of InLevel) w) (drop (leading (is_of InLevel) w) w)
    → behind_level is_tag at (c ∷ w) ≡ behind_brace is_tag (at + leading (is_of InLevel) (c ∷ w)) (drop (leading (is_of InLevel) (c ∷ w)) (c ∷ w))
brace_step is_tag c w at true e same = let none : at + 0 + 1 ≡ at + 1 = omega arith in rw (e, none) refl
brace_step is_tag c w at false e same = let place : at + suc (leading (is_of InLevel) w) ≡ at + 1 + leading (is_of InLevel) w = omega arith in rw (e, place) same

-- the names behind a level begin behind its brace
pub brace_is : (is_tag : List ℕ → Bool) (w : List ℕ) (at : ℕ) → behind_level is_tag at w ≡ behind_brace is_tag (at + leading (is_of InLevel) w) (drop (leading (is_of InLevel) w) w)
brace_is is_tag [] at = refl
brace_is is_tag (c ∷ w) at = brace_step is_tag c w at (c == 125) refl (brace_is is_tag w (at + 1))

-- the fault of names that begin at a place
abbrev pub names_from_place : (List ℕ → Bool) → ℕ → List ℕ → Option Fault
names_from_place is_tag at w = names_fault is_tag at at [] w

-- what stands behind the first of some bytes, seen from its place
brace_names : (is_tag : List ℕ → Bool) (at n : ℕ) (w v : List ℕ) → v ≡ drop n w → behind_brace is_tag (at + 1 + n) v ≡ names_from_place is_tag (at + (suc (length w) - length (without_first v))) (without_first v)
brace_names is_tag at n w [] e = refl
brace_names is_tag at n w (c ∷ v) e =
    let left : suc (length v) ≡ length w - n = ap length e ∙ length-drop n w in
    let place : at + 1 + n + 1 ≡ at + (suc (length w) - length v) = omega (arith, left) in
    ap (λ (m : ℕ). names_from_place is_tag m v) place

-- the names of a criterion stand behind its level
pub tags_is : (is_tag : List ℕ → Bool) (at : ℕ) (w : List ℕ) → tags_fault is_tag at w ≡ names_from_place is_tag (at + (length w - length (level_rest w))) (level_rest w)
tags_is is_tag at [] = refl
tags_is is_tag at (c ∷ w) =
    let n = leading (is_of InLevel) w in
    cond_both (c == 123) (without_first (drop n w)) (c ∷ w) (λ (v : List ℕ). tags_fault is_tag at (c ∷ w) ≡ names_from_place is_tag (at + (length (c ∷ w) - length v)) v)
    (λ e. cond-true (c == 123) _ _ e ∙ brace_is is_tag w (at + 1) ∙ brace_names is_tag at n w (drop n w) refl)
    (λ e. let here : at ≡ at + (length (c ∷ w) - length (c ∷ w)) = omega arith in cond-false (c == 123) _ _ e ∙ ap (λ (m : ℕ). names_from_place is_tag m (c ∷ w)) here)

-- ---- the first fault

-- the answer to the first of two is the answer
pub answer_first : (f : QueryFault) (o p : Option Fault) → IsAnswer f o → IsAnswer f (option_or o p)
answer_first (Syntax at) o p e = rw e refl
answer_first (UnknownTag at) o p e = rw e refl
answer_first (Number at) o p e = rw e refl
answer_first (Pattern at) o p e = rw e refl
answer_first (Deep at) o p e = rw e refl
answer_first NoMemory o p e = e

-- ---- what a loop over names says of each

-- a name's fault is the first of the names that begin with it
pub name_answer : (is_tag : List ℕ → Bool) (at n : ℕ) (w : List ℕ) (f : QueryFault) → n ≡ leading is_name_byte w → IsAnswer f (name_fault is_tag at (take n w)) → IsAnswer f (names_fault is_tag at at [] w)
name_answer is_tag at n w f same e =
    rw (names_is is_tag at w, ← same) (answer_first f (name_fault is_tag at (take n w)) (behind_comma is_tag (at + n) (drop n w)) e)

-- without a comma no names follow
no_more : (is_tag : List ℕ → Bool) (at : ℕ) (w : List ℕ) → begins_with_comma w ≡ false → behind_comma is_tag at w ≡ None
no_more is_tag at [] e = refl
no_more is_tag at (c ∷ w) e = cond-false (c == 44) _ _ e

-- behind the last name there is no fault
pub last_name : (is_tag : List ℕ → Bool) (at n : ℕ) (w rest : List ℕ) → n ≡ leading is_name_byte w → name_fault is_tag at (take n w) ≡ None → rest ≡ drop n w → begins_with_comma rest ≡ false → names_fault is_tag at at [] w ≡ None
last_name is_tag at n w rest same e cut no_comma =
    names_behind_fine is_tag at n w same e ∙ ap (behind_comma is_tag (at + n)) (sym cut) ∙ no_more is_tag (at + n) rest no_comma

-- behind a comma the names go on
pub more_names : (is_tag : List ℕ → Bool) (at n : ℕ) (w rest more : List ℕ) → n ≡ leading is_name_byte w → name_fault is_tag at (take n w) ≡ None → rest ≡ drop n w → rest ≡ 44 ∷ more → names_fault is_tag (at + (n + 1)) (at + (n + 1)) [] more ≡ names_fault is_tag at at [] w
more_names is_tag at n w rest more same e cut comma =
    let place : at + n + 1 ≡ at + (n + 1) = omega arith in
    sym (names_behind_fine is_tag at n w same e ∙ ap (behind_comma is_tag (at + n)) (sym cut ∙ comma) ∙ ap (λ (m : ℕ). names_fault is_tag m m [] more) place)

-- the error of a `?` is answered as it was found
pub err_answer : {T : Type 0} (r : Result T QueryFault) (f : QueryFault) (o : Option Fault) → IsErrAnd r (λ e. e ≡ f) → IsAnswer f o → IfErr r (λ e. IsAnswer e o)
err_answer (Ok x) f o same e = tt
err_answer (Err g) f o same e = rw same e
