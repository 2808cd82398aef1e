-- A criterion, with its level: the table takes its parts, and no other bytes.
use Rattle.std.proofs.Common.{◌≡◌, ℕ, ◌==◌, ◌&&◌, ◌||◌, Bool, true, false, cond, List, [], ◌∷◌, ◌++◌, length, Option, Some, None, refl, sym, ap, ◌∙◌, inl, inr, append_assoc, arith}
use Rattle.std.specs.Prelude.{nat_lt}
use Rattle.std.specs.List.{list_all}
use Rattle.std.proofs.lemmas.Bool.{and_parts, and_from, or_cases, cond_both, cond-true, eqb-true, lt-ltb}
use Rattle.std.proofs.lemmas.Bool.Decides.{nat_tests}
use Rattle.query_grammar.specs.declared.lex.Lex.{Lex}
use Rattle.query_grammar.specs.declared.lex.Lex.TheVariants.{Begin, LevelOpen, Level as InLevel, LevelSign as BehindLevel, NameNext, InName}
use Rattle.query_grammar.specs.Bytes.{is_digit, is_name_byte}
use Rattle.query_grammar.specs.Lexical.{lex, lexed, lexed_from, is_last, whole_from}
use Rattle.query_grammar.specs.Criterion.{is_all, LevelSign, OrMore, OrLess, Level, sign_text, level_text, is_level, joined_names, prefix_text, is_some_text, field_text, is_field, Parts, names_of, criterion_text, is_criterion}
use Rattle.query_grammar.proofs.Lexing.{lexed-append}
use Rattle.query_grammar.proofs.Criterion.{stays, never, names_taken, names, NextOf, joined_first, name_more}

sign_taken : (operator : Option LevelSign) (rest : List ℕ) → lexed InLevel (sign_text operator ++ 125 ∷ rest) ≡ lexed NameNext rest
sign_taken None rest = refl
sign_taken (Some OrMore) rest = refl
sign_taken (Some OrLess) rest = refl

pub level_taken : (digits : List ℕ) (operator : Option LevelSign) (rest : List ℕ) → is_all is_digit digits ≡ true → lexed LevelOpen (digits ++ (sign_text operator ++ 125 ∷ rest)) ≡ lexed NameNext rest
level_taken [] operator rest e = absurd cc
level_taken (c ∷ w) operator rest e =
    let all = and_parts (is_digit c) (list_all is_digit w) (and_parts (nat_lt 0 (length (c ∷ w))) (list_all is_digit (c ∷ w)) e).1 in
    ap (lexed_from (w ++ (sign_text operator ++ 125 ∷ rest))) (cond-true (is_digit c) _ _ all.0)
    ∙ lexed-append w (sign_text operator ++ 125 ∷ rest) (Some InLevel)
    ∙ ap (lexed_from (sign_text operator ++ 125 ∷ rest)) (stays InLevel is_digit w (λ d h. cond-true (is_digit d) _ _ h) all.1)
    ∙ sign_taken operator rest

-- a name byte begins a criterion as it begins a name
begin_name : (c : ℕ) → is_name_byte c ≡ true → lex Begin c ≡ Some InName
begin_name c e = grind (arith, nat_tests)

-- bytes begin with one that passes
abbrev pub begins_there : (ℕ → Bool) → List ℕ → Bool
begins_there test [] = false
begins_there test (c ∷ w) = test c

-- names begin with a byte of names
pub name_begins : (name : List ℕ) (names : List (List ℕ)) (v : List ℕ) → list_all (is_all is_name_byte) (name ∷ names) ≡ true → begins_there is_name_byte (joined_names (name ∷ names) ++ v) ≡ true
name_begins [] names v good = absurd cc
name_begins (c ∷ name) names v good =
    let all = (and_parts (is_all is_name_byte (c ∷ name)) (list_all (is_all is_name_byte) names) good).0 in
    ap (begins_there is_name_byte) (joined_first c name names v) ∙ (and_parts (is_name_byte c) (list_all is_name_byte name) (and_parts (nat_lt 0 (length (c ∷ name))) (list_all is_name_byte (c ∷ name)) all).1).0

first_name : (v : List ℕ) → begins_there is_name_byte v ≡ true → lexed Begin v ≡ lexed NameNext v
first_name [] e = absurd cc
first_name (c ∷ w) e = ap (lexed_from w) (begin_name c e ∙ sym (cond-true (is_name_byte c) (Some InName) None e))

-- four lists, one behind the other
pub regroup : (a b c d : List ℕ) → a ++ b ++ c ++ d ≡ a ++ (b ++ (c ++ d))
regroup a b c d = simp append_assoc

-- a level, or none, before names
level_before : (level : Option Level) (v : List ℕ) → is_level level ≡ true → begins_there is_name_byte v ≡ true → lexed Begin (level_text level ++ v) ≡ lexed NameNext v
level_before None v l e = first_name v e
level_before (Some level) v l e =
    let regrouped : level_text (Some level) ++ v ≡ 123 ∷ (level.digits ++ (sign_text level.operator ++ 125 ∷ v)) = simp append_assoc in
    ap (lexed Begin) regrouped ∙ level_taken level.digits level.operator v l

-- what a criterion has as it is written
pub record IsGood (p : Parts) : Type 0 where
  pub level : is_level p.level ≡ true
  pub names : list_all (is_all is_name_byte) (names_of p) ≡ true
  pub prefix : is_some_text p.prefix ≡ true
  pub field : is_field p.field ≡ true

pub is_good : (p : Parts) → is_criterion p ≡ true → IsGood p
is_good p e =
    let a = and_parts (is_level p.level && list_all (is_all is_name_byte) (names_of p) && is_some_text p.prefix) (is_field p.field) e in
    let b = and_parts (is_level p.level && list_all (is_all is_name_byte) (names_of p)) (is_some_text p.prefix) a.0 in
    let c = and_parts (is_level p.level) (list_all (is_all is_name_byte) (names_of p)) b.0 in
    record { level = c.0; names = c.1; prefix = b.1; field = a.1 }

pub criterion_taken : (p : Parts) → is_criterion p ≡ true → whole_from Begin (criterion_text p) ≡ true
criterion_taken p e =
    let g = is_good p e in
    let end = prefix_text p.prefix ++ field_text p.field in
    let v = joined_names (names_of p) ++ end in
    ap (whole_from Begin) (regroup (level_text p.level) (joined_names (names_of p)) (prefix_text p.prefix) (field_text p.field))
    ∙ ap is_last (level_before p.level v g.level (name_begins p.name p.names end g.names))
    ∙ names_taken p.name p.names p.prefix p.field g.names g.prefix g.field

-- ---- the other way

pub record CriterionOf (w : List ℕ) : Type 0 where
  pub parts : Parts
  pub good : is_criterion parts ≡ true
  pub same : criterion_text parts ≡ w

-- the end of a level, and names
record SignOf (w : List ℕ) : Type 0 where
  operator : Option LevelSign
  rest : List ℕ
  same : sign_text operator ++ 125 ∷ rest ≡ w
  behind : NextOf rest

record LevelOf (w : List ℕ) : Type 0 where
  digits : List ℕ
  rest : List ℕ
  good : list_all is_digit digits ≡ true
  same : digits ++ rest ≡ w
  behind : SignOf rest

close_level : (c : ℕ) (w : List ℕ) → (c == 125) ≡ true → is_last (lexed NameNext w) ≡ true → SignOf (c ∷ w)
close_level c w close g = record { operator = None; rest = w; same = ap (λ (x : ℕ). x ∷ w) (sym (eqb-true c 125 close)); behind = (names w).is_next g }

behind_sign : (w : List ℕ) → is_last (lexed BehindLevel w) ≡ true → (rest : List ℕ) × (125 ∷ rest ≡ w) × NextOf rest
behind_sign [] e = absurd cc
behind_sign (c ∷ w) e =
    cond_both (c == 125) (Some NameNext) None (λ o. is_last (lexed_from w o) ≡ true → (rest : List ℕ) × (125 ∷ rest ≡ c ∷ w) × NextOf rest)
    (λ close g. (w, ap (λ (x : ℕ). x ∷ w) (sym (eqb-true c 125 close)), (names w).is_next g))
    (λ close g. absurd (never w g)) e

sign_of : (c : ℕ) (w : List ℕ) → ((c == 43) || (c == 45)) ≡ true → is_last (lexed BehindLevel w) ≡ true → SignOf (c ∷ w)
sign_of c w operator g =
    let h = behind_sign w g in
    elim (or_cases (c == 43) (c == 45) operator) [
      | inl plus ↦ record { operator = Some OrMore; rest = h.0; same = ap (λ (v : List ℕ). 43 ∷ v) h.1 ∙ ap (λ (x : ℕ). x ∷ w) (sym (eqb-true c 43 plus)); behind = h.2 }
      | inr minus ↦ record { operator = Some OrLess; rest = h.0; same = ap (λ (v : List ℕ). 45 ∷ v) h.1 ∙ ap (λ (x : ℕ). x ∷ w) (sym (eqb-true c 45 minus)); behind = h.2 }
    ]

level_from : (w : List ℕ) → is_last (lexed InLevel w) ≡ true → LevelOf w
level_from [] e = absurd cc
level_from (c ∷ w) e =
    let P : Option Lex → Type 0 = λ o. is_last (lexed_from w o) ≡ true → LevelOf (c ∷ w) in
    cond_both (is_digit c) (Some InLevel) (cond ((c == 43) || (c == 45)) (Some BehindLevel) (cond (c == 125) (Some NameNext) None)) P
    (λ d g. let h = level_from w g in record { digits = c ∷ h.digits; rest = h.rest; good = and_from (is_digit c) (list_all is_digit h.digits) d h.good; same = ap (λ (v : List ℕ). c ∷ v) h.same; behind = h.behind })
    (λ d. cond_both ((c == 43) || (c == 45)) (Some BehindLevel) (cond (c == 125) (Some NameNext) None) P
    (λ operator g. record { digits = []; rest = c ∷ w; good = refl; same = refl; behind = sign_of c w operator g })
    (λ operator. cond_both (c == 125) (Some NameNext) None P
    (λ close g. record { digits = []; rest = c ∷ w; good = refl; same = refl; behind = close_level c w close g })
    (λ close g. absurd (never w g)))) e

criterion_parts : (digits rest : List ℕ) (c : ℕ) (w : List ℕ) → (c == 123) ≡ true → is_all is_digit digits ≡ true → digits ++ rest ≡ w → SignOf rest → CriterionOf (c ∷ w)
criterion_parts digits rest c w b good same h =
    let n = h.behind in
    record {
      parts = record { level = Some (record { digits = digits; operator = h.operator }); name = n.name; names = n.names; prefix = n.prefix; field = n.field };
      good = and_from _ _ (and_from _ _ (and_from _ _ good (and_from _ _ n.good n.good_names)) n.good_prefix) n.good_field;
      same = (simp append_assoc) ∙ ap (λ (v : List ℕ). 123 ∷ (digits ++ (sign_text h.operator ++ 125 ∷ v))) n.same ∙ ap (λ (v : List ℕ). 123 ∷ (digits ++ v)) h.same ∙ ap (λ (v : List ℕ). 123 ∷ v) same ∙ ap (λ (x : ℕ). x ∷ w) (sym (eqb-true c 123 b));
    }

open_level : (c : ℕ) (w : List ℕ) → (c == 123) ≡ true → is_last (lexed LevelOpen w) ≡ true → CriterionOf (c ∷ w)
open_level c [] b e = absurd cc
open_level c (d ∷ w) b e =
    cond_both (is_digit d) (Some InLevel) None (λ o. is_last (lexed_from w o) ≡ true → CriterionOf (c ∷ d ∷ w))
    (λ t g.
    let h = level_from w g in
    criterion_parts (d ∷ h.digits) h.rest c (d ∷ w) b (and_from _ _ (lt-ltb 0 (length (d ∷ h.digits)) (omega arith)) (and_from (is_digit d) (list_all is_digit h.digits) t h.good)) (ap (λ (v : List ℕ). d ∷ v) h.same) h.behind)
    (λ t g. absurd (never w g)) e

pub criterion_from : (w : List ℕ) → whole_from Begin w ≡ true → CriterionOf w
criterion_from [] e = absurd cc
criterion_from (c ∷ w) e =
    let P : Option Lex → Type 0 = λ o. is_last (lexed_from w o) ≡ true → CriterionOf (c ∷ w) in
    cond_both (c == 123) (Some LevelOpen) (cond (is_name_byte c) (Some InName) None) P
    (λ b g. open_level c w b g)
    (λ b. cond_both (is_name_byte c) (Some InName) None P
    (λ t g.
    let h = name_more c w t ((names w).goes_on g) in
    record {
      parts = record { level = None; name = h.name; names = h.names; prefix = h.prefix; field = h.field };
      good = and_from _ _ (and_from _ _ (and_from _ _ refl (and_from _ _ h.good h.good_names)) h.good_prefix) h.good_field;
      same = append_assoc (joined_names (h.name ∷ h.names)) (prefix_text h.prefix) (field_text h.field) ∙ h.same;
    })
    (λ t g. absurd (never w g))) e
