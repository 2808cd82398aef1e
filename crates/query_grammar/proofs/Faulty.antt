-- The faults of a criterion's bytes are those of its parts.
use Rattle.std.proofs.Common.{◌≡◌, ℕ, ◌+◌, ◌*◌, ◌-◌, ◌<◌, ◌≤◌, ◌==◌, ◌≢◌, ◌&&◌, ◌||◌, not, ◌⊎◌, inl, inr, Bool, true, false, cond, List, [], ◌∷◌, ◌++◌, length, Option, Some, None, refl, sym, ap, subst, ◌∙◌, append_assoc, arith}
use Rattle.std.specs.Prelude.{nat_lt}
use Rattle.std.specs.Option.{option_or}
use Rattle.std.specs.List.{list_all}
use Rattle.std.specs.Str.Parse.{digits_value, digits_value_after}
use Rattle.std.specs.Char.{digit_value}
use Rattle.std.proofs.lemmas.List.{length-append, append-nil}
use Rattle.std.proofs.lemmas.List.Folds.{list_all-append}
use Rattle.std.proofs.lemmas.Bool.{and_parts, and_from, or_cases, cond_both, cond-true, cond-false, eqb-true, eq-eqb, not-true, not_from_false, ltb-true, ltb-false, lt-ltb, or_parts}
use Rattle.std.proofs.lemmas.Bool.Decides.{nat_tests}
use Rattle.query_grammar.specs.declared.lex.Lex.{Lex}
use Rattle.query_grammar.specs.declared.lex.Lex.TheVariants.{Begin, LevelOpen, Level as InLevel, LevelSign as BehindLevel, NameNext, InName, TextNext, InWord, InQuote, Escape, TextDone, FieldOpen, Field, Done}
use Rattle.query_grammar.specs.declared.lex.Part.TheVariants.{Prefix, Operand}
use Rattle.query_grammar.specs.Bytes.{is_digit, is_name_byte, is_word_byte, quote_byte}
use Rattle.query_grammar.specs.Lexical.{lex, lexed, lexed_from, is_state, is_last, may_end, begins_from, whole_from}
use Rattle.query_grammar.specs.Criterion.{is_all, LevelSign, OrMore, OrLess, Level, sign_text, level_text, is_level, joined_names, names_of, prefix_text, field_text}
use Rattle.query_grammar.specs.Scanner.{Fault, UnknownTag, Number}
use Rattle.query_grammar.specs.Judging.{name_fault, names_fault, behind_level, tags_fault, number, level_fault, is_field_open, field_value, field_fault}
use Rattle.query_grammar.specs.Faulty.{ends_there, is_run, before_comma, UnknownName, WrongLevel, WrongField}
use Rattle.query_grammar.proofs.Lexing.{lexed-append, completed}
use Rattle.query_grammar.proofs.Levels.{begins_there, name_begins, regroup, is_good, level_taken, criterion_from}
use Rattle.query_grammar.proofs.OneParts.{level_bytes, no_level_name, no_name_brace}
use Rattle.query_grammar.proofs.Fine.{or_else_none}

-- ---- runs of bytes, and the number of digits

-- bytes that pass, and what stands behind them
record RunOf (test : ℕ → Bool) (w : List ℕ) : Type 0 where
  run : List ℕ
  behind : List ℕ
  parts : w ≡ run ++ behind
  passes : list_all test run ≡ true
  ends : ends_there test behind ≡ true

run_byte : (test : ℕ → Bool) (c : ℕ) (w : List ℕ) (b : Bool) → test c ≡ b → RunOf test w → RunOf test (c ∷ w)
run_byte test c w true e h = record { run = c ∷ h.run; behind = h.behind; parts = ap (λ (v : List ℕ). c ∷ v) h.parts; passes = and_from (test c) (list_all test h.run) e h.passes; ends = h.ends }
run_byte test c w false e h = record { run = []; behind = c ∷ w; parts = refl; passes = refl; ends = not_from_false (test c) e }

run_of : (test : ℕ → Bool) (w : List ℕ) → RunOf test w
run_of test [] = record { run = []; behind = []; parts = refl; passes = refl; ends = refl }
run_of test (c ∷ w) = run_byte test c w (test c) refl (run_of test w)

some_bytes : (test : ℕ → Bool) (c : ℕ) (w : List ℕ) → list_all test (c ∷ w) ≡ true → is_all test (c ∷ w) ≡ true
some_bytes test c w e = and_from (nat_lt 0 (length (c ∷ w))) (list_all test (c ∷ w)) (lt-ltb 0 (length (c ∷ w)) (omega arith)) e

-- a number that is cut off where it is too great is as great as the digits' value, or both are too great
abbrev SameNumber : ℕ → ℕ → Type 0
SameNumber n m = (n ≡ m) ⊎ ((9999 < n) × (9999 < m))

grown : (w : List ℕ) (n : ℕ) → n ≤ digits_value_after 10 n w
grown [] n = omega arith
grown (c ∷ w) n = let h = grown w (n * 10 + digit_value c) in omega (arith, h)

number_is : (digits behind : List ℕ) (n : ℕ) → list_all is_digit digits ≡ true → ends_there is_digit behind ≡ true → SameNumber (number n (digits ++ behind)) (digits_value_after 10 n digits)
number_is [] [] n all end = inl refl
number_is [] (c ∷ behind) n all end = inl (cond-false (is_digit c) _ _ (not-true (is_digit c) end))
number_is (c ∷ digits) behind n all end =
    let both = and_parts (is_digit c) (list_all is_digit digits) all in
    let P : ℕ → Type 0 = λ m. SameNumber m (digits_value_after 10 n (c ∷ digits)) in
    let digit : 10 * n + (c - 48) ≡ n * 10 + digit_value c = grind (arith, nat_tests) in
    subst P (sym (cond-true (is_digit c) _ _ both.0))
    (cond_both (nat_lt 9999 n) n (number (10 * n + (c - 48)) (digits ++ behind)) P
    (λ b. let h = grown (c ∷ digits) n in inr (ltb-true 9999 n b, omega (arith, h, ltb-true 9999 n b)))
    (λ b. subst (λ (m : ℕ). SameNumber (number m (digits ++ behind)) (digits_value_after 10 (n * 10 + digit_value c) digits)) (sym digit) (number_is digits behind (n * 10 + digit_value c) both.1 end)))

-- ---- names

-- bytes begin with names of which the first that is no tag is at fault
record NameAt (is_tag : List ℕ → Bool) (from : ℕ) (w : List ℕ) (f : Fault) : Type 0 where
  tags : List (List ℕ)
  name : List ℕ
  behind : List ℕ
  parts : w ≡ before_comma tags ++ (name ++ behind)
  fault : f ≡ UnknownTag (from + length (before_comma tags))
  are : list_all (is_all is_name_byte) tags ≡ true
  known : list_all is_tag tags ≡ true
  run : is_run is_name_byte name behind ≡ true
  unknown : is_tag name ≡ false

-- a name that has ended is at fault
name_at : (is_tag : List ℕ → Bool) (name behind : List ℕ) (from : ℕ) (f : Fault) → list_all is_name_byte name ≡ true → ends_there is_name_byte behind ≡ true → name_fault is_tag from name ≡ Some f → NameAt is_tag from (name ++ behind) f
name_at is_tag [] behind from f all end e = absurd cc
name_at is_tag (c ∷ name) behind from f all end e =
    cond_both (is_tag (c ∷ name)) None (Some (UnknownTag from)) (λ o. o ≡ Some f → NameAt is_tag from ((c ∷ name) ++ behind) f) (λ t e. absurd cc)
    (λ t e.
    let same : f ≡ UnknownTag from = cc in
    let none : from ≡ from + 0 = omega arith in
    record { tags = []; name = c ∷ name; behind = behind; parts = refl; fault = same ∙ ap UnknownTag none; are = refl; known = refl; run = and_from _ _ (some_bytes is_name_byte c name all) end; unknown = t }) e

-- where names are read
abbrev name_state : List ℕ → Lex
name_state [] = NameNext
name_state (c ∷ name) = InName

-- what the names from a byte on say of a fault
abbrev NamesSay : (List ℕ → Bool) → List ℕ → Type 0
NamesSay is_tag w = (at from : ℕ) (name : List ℕ) (f : Fault) → list_all is_name_byte name ≡ true → at ≡ from + length name → is_state (lexed (name_state name) w) ≡ true → names_fault is_tag at from name w ≡ Some f → NameAt is_tag from (name ++ w) f

-- a name is a tag where it has no fault
tag_is : (is_tag : List ℕ → Bool) (c : ℕ) (name : List ℕ) (from : ℕ) → name_fault is_tag from (c ∷ name) ≡ None → is_tag (c ∷ name) ≡ true
tag_is is_tag c name from = cond_both (is_tag (c ∷ name)) None (Some (UnknownTag from)) (λ o. o ≡ None → is_tag (c ∷ name) ≡ true) (λ t e. t) (λ t e. absurd cc)

-- behind a name and its comma
comma_at : (is_tag : List ℕ → Bool) (c d : ℕ) (name w : List ℕ) (at from : ℕ) (f : Fault) → (c == 44) ≡ true → list_all is_name_byte (d ∷ name) ≡ true → is_tag (d ∷ name) ≡ true → at ≡ from + length (d ∷ name) → NameAt is_tag (at + 1) w f → NameAt is_tag from ((d ∷ name) ++ c ∷ w) f
comma_at is_tag c d name w at from f comma all tag e h =
    let there : at + 1 + length (before_comma h.tags) ≡ from + length (before_comma ((d ∷ name) ∷ h.tags)) = omega (arith, e, length-append name (44 ∷ before_comma h.tags)) in
    record {
      tags = (d ∷ name) ∷ h.tags;
      name = h.name;
      behind = h.behind;
      parts = ap (λ (x : ℕ). (d ∷ name) ++ x ∷ w) (eqb-true c 44 comma) ∙ ap (λ (v : List ℕ). (d ∷ name) ++ 44 ∷ v) h.parts ∙ sym (append_assoc (d ∷ name) (44 ∷ before_comma h.tags) (h.name ++ h.behind));
      fault = h.fault ∙ ap UnknownTag there;
      are = and_from _ _ (some_bytes is_name_byte d name all) h.are;
      known = and_from _ _ tag h.known;
      run = h.run;
      unknown = h.unknown;
    }

no_way : (w : List ℕ) → is_state (lexed_from w None) ≡ true → ⊥
no_way [] e = absurd cc
no_way (c ∷ w) e = absurd cc

-- where a name is next stands a byte of one
next_byte : (c : ℕ) (w : List ℕ) → is_name_byte c ≡ false → is_state (lexed NameNext (c ∷ w)) ≡ true → ⊥
next_byte c w e b = no_way w (sym (ap (λ (o : Option Lex). is_state (lexed_from w o)) (cond-false (is_name_byte c) _ _ e)) ∙ b)

-- a byte of a name leads on
name_on : (name : List ℕ) (c : ℕ) → is_name_byte c ≡ true → lex (name_state name) c ≡ Some InName
name_on [] c t = cond-true (is_name_byte c) _ _ t
name_on (d ∷ name) c t = cond-true (is_name_byte c) _ _ t

pushed : (name : List ℕ) (c : ℕ) → name_state (name ++ c ∷ []) ≡ InName
pushed [] c = refl
pushed (d ∷ name) c = refl

-- a comma leads to the next name
comma_on : (c : ℕ) → is_name_byte c ≡ false → (c == 44) ≡ true → lex InName c ≡ Some NameNext
comma_on c t comma = cond-false (is_name_byte c) _ _ t ∙ cond-true (c == 44) _ _ comma

-- a byte of no name, behind a name without a fault
name_over : (is_tag : List ℕ → Bool) (c : ℕ) (w : List ℕ) → NamesSay is_tag w → (at from : ℕ) (name : List ℕ) (f : Fault) (o : Option Fault) → is_name_byte c ≡ false → list_all is_name_byte name ≡ true → at ≡ from + length name
    → is_state (lexed (name_state name) (c ∷ w)) ≡ true → name_fault is_tag from name ≡ o → option_or o (cond (c == 44) (names_fault is_tag (at + 1) (at + 1) [] w) None) ≡ Some f → NameAt is_tag from (name ++ c ∷ w) f
name_over is_tag c w later at from name f (Some g) t all place b o e = name_at is_tag name (c ∷ w) from f all (not_from_false _ t) (o ∙ e)
name_over is_tag c w later at from [] f None t all place b o e = absurd (next_byte c w t b)
name_over is_tag c w later at from (d ∷ name) f None t all place b o e =
    cond_both (c == 44) _ None (λ (x : Option Fault). x ≡ Some f → NameAt is_tag from ((d ∷ name) ++ c ∷ w) f)
    (λ comma g. comma_at is_tag c d name w at from f comma all (tag_is is_tag d name from o) place
    (later (at + 1) (at + 1) [] f refl (omega arith) (sym (ap (λ (x : Option Lex). is_state (lexed_from w x)) (comma_on c t comma)) ∙ b) g))
    (λ comma g. absurd cc) e

names_say : (is_tag : List ℕ → Bool) (w : List ℕ) → NamesSay is_tag w
names_say is_tag [] at from name f all place b e = name_at is_tag name [] from f all refl e
names_say is_tag (c ∷ w) at from name f all place b e =
    cond_both (is_name_byte c) (names_fault is_tag (at + 1) from (name ++ c ∷ []) w) (option_or (name_fault is_tag from name) (cond (c == 44) (names_fault is_tag (at + 1) (at + 1) [] w) None)) (λ (x : Option Fault). x ≡ Some f → NameAt is_tag from (name ++ c ∷ w) f)
    (λ t g.
    let longer = names_say is_tag w (at + 1) from (name ++ c ∷ []) f (list_all-append is_name_byte name (c ∷ []) ∙ and_from _ _ all (and_from _ _ t refl)) (omega (arith, place, length-append name (c ∷ [])))
    (ap (λ (l : Lex). is_state (lexed l w)) (pushed name c) ∙ sym (ap (λ (x : Option Lex). is_state (lexed_from w x)) (name_on name c t)) ∙ b) g in
    subst (λ (v : List ℕ). NameAt is_tag from v f) (append_assoc name (c ∷ []) w) longer)
    (λ t g. name_over is_tag c w (names_say is_tag w) at from name f (name_fault is_tag from name) t all place b refl g) e

-- ---- behind a level

-- the brace of a level comes behind its bytes, where there is more of the criterion
skip_level : (is_tag : List ℕ → Bool) (u w more v : List ℕ) (at : ℕ) (f : Fault) → list_all (λ c. not (c == 125)) u ≡ true → w ++ more ≡ u ++ 125 ∷ v → behind_level is_tag at w ≡ Some f
    → (rest : List ℕ) × (w ≡ u ++ 125 ∷ rest) × (names_fault is_tag (at + length u + 1) (at + length u + 1) [] rest ≡ Some f)
skip_level is_tag u [] more v at f all same e = absurd cc
skip_level is_tag [] (c ∷ w) more v at f all same e =
    let first : c ≡ 125 = cc in
    let place : at + 1 ≡ at + 0 + 1 = omega arith in
    (w, ap (λ (x : ℕ). x ∷ w) first, sym (ap (λ (n : ℕ). names_fault is_tag n n [] w) place) ∙ sym (cond-true (c == 125) _ _ (eq-eqb c 125 first)) ∙ e)
skip_level is_tag (d ∷ u) (c ∷ w) more v at f all same e =
    let first : c ≡ d = cc in
    let later : w ++ more ≡ u ++ 125 ∷ v = cc in
    let both = and_parts (not (d == 125)) (list_all (λ c. not (c == 125)) u) all in
    let h = skip_level is_tag u w more v (at + 1) f both.1 later (sym (cond-false (c == 125) _ _ (ap (λ (x : ℕ). x == 125) first ∙ not-true _ both.0)) ∙ e) in
    let place : at + 1 + length u + 1 ≡ at + length (d ∷ u) + 1 = omega arith in
    let rest : w ≡ u ++ 125 ∷ h.0 = h.1 in
    (h.0, cc, sym (ap (λ (n : ℕ). names_fault is_tag n n [] h.0) place) ∙ h.2)

no_close : (digits : List ℕ) (operator : Option LevelSign) → list_all is_digit digits ≡ true → list_all (λ c. not (c == 125)) (digits ++ sign_text operator) ≡ true
no_close [] None all = refl
no_close [] (Some OrMore) all = refl
no_close [] (Some OrLess) all = refl
no_close (c ∷ digits) operator all =
    let both = and_parts (is_digit c) (list_all is_digit digits) all in
    let other : not (c == 125) ≡ true = grind (arith, nat_tests) in
    and_from _ _ other (no_close digits operator both.1)

-- a fault of a criterion at a byte of it
pub record WrongAt (Wrong : List ℕ → ℕ → Type 0) (Says : ℕ → Fault) (at : ℕ) (w : List ℕ) (f : Fault) : Type 0 where
  pub byte : ℕ
  pub wrong : Wrong w byte
  pub fault : f ≡ Says (at + byte)

-- the names of a criterion, behind its level
unknown_at : (is_tag : List ℕ → Bool) (level : Option Level) (w : List ℕ) (at from : ℕ) (f : Fault) → is_level level ≡ true → from ≡ at + length (level_text level) → NameAt is_tag from w f → WrongAt (UnknownName is_tag) UnknownTag at (level_text level ++ w) f
unknown_at is_tag level w at from f good place h =
    let there : from + length (before_comma h.tags) ≡ at + length (level_text level ++ before_comma h.tags) = omega (arith, place, length-append (level_text level) (before_comma h.tags)) in
    record {
      byte = length (level_text level ++ before_comma h.tags);
      wrong = record { level = level; tags = h.tags; name = h.name; behind = h.behind; parts = ap (λ (v : List ℕ). level_text level ++ v) h.parts; place = refl; is = good; are = h.are; known = h.known; run = h.run; unknown = h.unknown };
      fault = h.fault ∙ ap UnknownTag there;
    }

-- a level that was read, and the names behind it
level_unknown : (is_tag : List ℕ → Bool) (l : Level) (w more v : List ℕ) (at : ℕ) (f : Fault) → is_all is_digit l.digits ≡ true → w ++ more ≡ l.digits ++ (sign_text l.operator ++ 125 ∷ v) → is_state (lexed LevelOpen w) ≡ true → behind_level is_tag (at + 1) w ≡ Some f
    → WrongAt (UnknownName is_tag) UnknownTag at (123 ∷ w) f
level_unknown is_tag l w more v at f good same b e =
    let digits = (and_parts (nat_lt 0 (length l.digits)) (list_all is_digit l.digits) good).1 in
    let h = skip_level is_tag (l.digits ++ sign_text l.operator) w more v (at + 1) f (no_close l.digits l.operator digits) (same ∙ sym (append_assoc l.digits (sign_text l.operator) (125 ∷ v))) e in
    let parts : w ≡ l.digits ++ (sign_text l.operator ++ 125 ∷ h.0) = h.1 ∙ append_assoc l.digits (sign_text l.operator) (125 ∷ h.0) in
    let from : ℕ = at + 1 + length (l.digits ++ sign_text l.operator) + 1 in
    let place : from ≡ at + length (level_text (Some l)) = omega (arith, length-append l.digits (sign_text l.operator), length-append (l.digits ++ sign_text l.operator) (125 ∷ []), length-append l.digits (sign_text l.operator ++ 125 ∷ []), length-append (sign_text l.operator) (125 ∷ [])) in
    let begun : is_state (lexed NameNext h.0) ≡ true = sym (ap is_state (level_taken l.digits l.operator h.0 good)) ∙ sym (ap (λ (x : List ℕ). is_state (lexed LevelOpen x)) parts) ∙ b in
    let none : from ≡ from + 0 = omega arith in
    let names = names_say is_tag h.0 from from [] f refl none begun h.2 in
    subst (λ (x : List ℕ). WrongAt (UnknownName is_tag) UnknownTag at x f) (level_bytes l h.0 ∙ ap (λ (x : List ℕ). 123 ∷ x) (sym parts)) (unknown_at is_tag (Some l) h.0 at from f good place names)

-- a criterion that begins with a brace has a level
with_level : (is_tag : List ℕ → Bool) (level : Option Level) (w more v : List ℕ) (at : ℕ) (f : Fault) → is_level level ≡ true → begins_there is_name_byte v ≡ true → level_text level ++ v ≡ 123 ∷ (w ++ more) → is_state (lexed LevelOpen w) ≡ true → behind_level is_tag (at + 1) w ≡ Some f
    → WrongAt (UnknownName is_tag) UnknownTag at (123 ∷ w) f
with_level is_tag None w more v at f good names same b e = absurd (no_level_name v (w ++ more) names same)
with_level is_tag (Some l) w more v at f good names same b e =
    let whole : 123 ∷ (l.digits ++ (sign_text l.operator ++ 125 ∷ v)) ≡ 123 ∷ (w ++ more) = sym (level_bytes l v) ∙ same in
    let later : w ++ more ≡ l.digits ++ (sign_text l.operator ++ 125 ∷ v) = cc in
    level_unknown is_tag l w more v at f good later b e

-- names of a criterion are at fault
pub tags_wrong : (is_tag : List ℕ → Bool) (w : List ℕ) (at : ℕ) (f : Fault) → begins_from Begin w ≡ true → tags_fault is_tag at w ≡ Some f → WrongAt (UnknownName is_tag) UnknownTag at w f
tags_wrong is_tag [] at f b e = absurd cc
tags_wrong is_tag (c ∷ w) at f b e =
    cond_both (c == 123) _ (names_fault is_tag at at [] (c ∷ w)) (λ (o : Option Fault). o ≡ Some f → WrongAt (UnknownName is_tag) UnknownTag at (c ∷ w) f)
    (λ brace g.
    let more = completed Begin (c ∷ w) b in
    let p = criterion_from ((c ∷ w) ++ more.0) more.1 in
    let parts = is_good p.parts p.good in
    let names = joined_names (names_of p.parts) ++ (prefix_text p.parts.prefix ++ field_text p.parts.field) in
    let same : level_text p.parts.level ++ names ≡ 123 ∷ (w ++ more.0) = sym (regroup (level_text p.parts.level) (joined_names (names_of p.parts)) (prefix_text p.parts.prefix) (field_text p.parts.field)) ∙ p.same ∙ ap (λ (x : ℕ). x ∷ (w ++ more.0)) (eqb-true c 123 brace) in
    let inner = sym (ap (λ (o : Option Lex). is_state (lexed_from w o)) (cond-true (c == 123) _ _ brace)) ∙ b in
    subst (λ (x : ℕ). WrongAt (UnknownName is_tag) UnknownTag at (x ∷ w) f) (sym (eqb-true c 123 brace))
    (with_level is_tag p.parts.level w more.0 names at f parts.level (name_begins p.parts.name p.parts.names (prefix_text p.parts.prefix ++ field_text p.parts.field) parts.names) same inner g))
    (λ brace g.
    let none : at ≡ at + 0 = omega arith in
    let begun : is_state (lexed NameNext (c ∷ w)) ≡ true = sym (ap (λ (o : Option Lex). is_state (lexed_from w o)) (cond-false (c == 123) _ _ brace)) ∙ b in
    unknown_at is_tag None (c ∷ w) at at f refl none (names_say is_tag (c ∷ w) at at [] f refl none begun g)) e

-- ---- numbers

-- digits that write a number are there
some_digits : (digits : List ℕ) → list_all is_digit digits ≡ true → 9999 < digits_value 10 digits → is_all is_digit digits ≡ true
some_digits [] all great = absurd (omega (arith, great))
some_digits (c ∷ digits) all great = some_bytes is_digit c digits all

pub level_wrong : (w : List ℕ) (at : ℕ) (f : Fault) → level_fault at w ≡ Some f → WrongAt WrongLevel Number at w f
level_wrong [] at f e = absurd cc
level_wrong (c ∷ w) at f e =
    cond_both ((c == 123) && nat_lt 9999 (number 0 w)) (Some (Number (at + 1))) None (λ (o : Option Fault). o ≡ Some f → WrongAt WrongLevel Number at (c ∷ w) f)
    (λ b g.
    let both = and_parts (c == 123) (nat_lt 9999 (number 0 w)) b in
    let r = run_of is_digit w in
    let great : 9999 < number 0 (r.run ++ r.behind) = subst (λ (v : List ℕ). 9999 < number 0 v) r.parts (ltb-true 9999 (number 0 w) both.1) in
    let value : 9999 < digits_value 10 r.run = (elim (number_is r.run r.behind 0 r.passes r.ends) [ inl same ↦ omega (arith, same, great) | inr two ↦ two.1 ]) in
    let same : f ≡ Number (at + 1) = cc in
    record { byte = 1; wrong = record { digits = r.run; behind = r.behind; parts = ap (λ (x : ℕ). x ∷ w) (eqb-true c 123 both.0) ∙ ap (λ (v : List ℕ). 123 ∷ v) r.parts; place = refl; run = and_from _ _ (some_digits r.run r.passes value) r.ends; great = value }; fault = same })
    (λ b g. absurd cc) e

-- a state of which the test says no isn't that before a field
else_opens : (b : Bool) (x y : Option Lex) → is_field_open x ≡ false → is_field_open (cond b x y) ≡ true → is_field_open y ≡ true
else_opens true x y none e = absurd cc
else_opens false x y none e = e

bracket_opens : (c : ℕ) → is_field_open (cond (c == 91) (Some FieldOpen) None) ≡ true → (c == 91) ≡ true
bracket_opens c = cond_both (c == 91) (Some FieldOpen) None (λ o. is_field_open o ≡ true → (c == 91) ≡ true) (λ b e. b) (λ b e. absurd cc)

no_field_opens : is_field_open None ≡ true → ⊥
no_field_opens e = absurd cc

-- a field's bracket stands behind what may end
field_opens : (l : Lex) (c : ℕ) → is_field_open (lex l c) ≡ true → (may_end l ≡ true) × ((c == 91) ≡ true)
field_opens InName c e = (refl, bracket_opens c (else_opens (c == 58) _ _ refl (else_opens (c == 44) _ _ refl (else_opens (is_name_byte c) _ _ refl e))))
field_opens (InWord Prefix) c e = (refl, bracket_opens c (else_opens (is_word_byte c) _ _ refl e))
field_opens (TextDone Prefix) c e = (refl, bracket_opens c e)
field_opens Begin c e = absurd (no_field_opens (else_opens (is_name_byte c) _ _ refl (else_opens (c == 123) _ _ refl e)))
field_opens LevelOpen c e = absurd (no_field_opens (else_opens (is_digit c) _ _ refl e))
field_opens InLevel c e = absurd (no_field_opens (else_opens (c == 125) _ _ refl (else_opens ((c == 43) || (c == 45)) _ _ refl (else_opens (is_digit c) _ _ refl e))))
field_opens BehindLevel c e = absurd (no_field_opens (else_opens (c == 125) _ _ refl e))
field_opens NameNext c e = absurd (no_field_opens (else_opens (is_name_byte c) _ _ refl e))
field_opens (TextNext p) c e = absurd (no_field_opens (else_opens (c == 39) _ _ refl (else_opens (c == 34) _ _ refl (else_opens (is_word_byte c) _ _ refl e))))
field_opens (InWord Operand) c e = absurd (no_field_opens (else_opens (is_word_byte c) _ _ refl e))
field_opens (InQuote p q) c e = let g : is_field_open (Some (InQuote p q)) ≡ true = else_opens (c == quote_byte q) _ _ refl (else_opens (c == 92) _ _ refl e) in absurd cc
field_opens (Escape p q) c e = absurd cc
field_opens (TextDone Operand) c e = absurd cc
field_opens FieldOpen c e = absurd (no_field_opens (else_opens (is_digit c) _ _ refl e))
field_opens Field c e = absurd (no_field_opens (else_opens (c == 93) _ _ refl (else_opens (is_digit c) _ _ refl e)))
field_opens Done c e = absurd cc

-- a number that is 0 or too great
no_value : (n m : ℕ) → SameNumber n m → ((n == 0) || nat_lt 9999 n) ≡ true → (1 ≤ m) × (m ≤ 9999) → ⊥
no_value n m (inl same) e within = elim (or_cases (n == 0) (nat_lt 9999 n) e) [
  | inl none ↦ omega (arith, eqb-true n 0 none, same, within.0)
  | inr great ↦ omega (arith, ltb-true 9999 n great, same, within.1)
]
no_value n m (inr two) e within = omega (arith, two.1, within.1)

-- the digits of a field
value_wrong : (u w : List ℕ) (at from : ℕ) (f : Fault) → whole_from Begin u ≡ true → at ≡ from + length u + 1 → is_state (lexed FieldOpen w) ≡ true → field_value at w ≡ Some f → WrongAt WrongField Number from (u ++ 91 ∷ w) f
value_wrong u [] at from f whole place b e = absurd cc
value_wrong u (c ∷ w) at from f whole place b e =
    let bad : Bool = (number 0 (c ∷ w) == 0) || nat_lt 9999 (number 0 (c ∷ w)) in
    cond_both bad (Some (Number at)) None (λ (o : Option Fault). o ≡ Some f → WrongAt WrongField Number from (u ++ 91 ∷ c ∷ w) f)
    (λ wrong g.
    let r = run_of is_digit w in
    let digit : is_digit c ≡ true = cond_both (is_digit c) (Some Field) None (λ o. is_state (lexed_from w o) ≡ true → is_digit c ≡ true) (λ t x. t) (λ t x. absurd (no_way w x)) b in
    let all = and_from (is_digit c) (list_all is_digit r.run) digit r.passes in
    let parts : c ∷ w ≡ (c ∷ r.run) ++ r.behind = ap (λ (v : List ℕ). c ∷ v) r.parts in
    let same : f ≡ Number at = cc in
    let there : at ≡ from + (length u + 1) = omega (arith, place) in
    record {
      byte = length u + 1;
      wrong = record {
        front = u;
        digits = c ∷ r.run;
        behind = r.behind;
        parts = ap (λ (v : List ℕ). u ++ 91 ∷ v) parts;
        place = refl;
        whole = whole;
        run = and_from _ _ (some_bytes is_digit c r.run all) r.ends;
        wrong = no_value (number 0 ((c ∷ r.run) ++ r.behind)) (digits_value 10 (c ∷ r.run)) (number_is (c ∷ r.run) r.behind 0 all r.ends) (sym (ap (λ (v : List ℕ). (number 0 v == 0) || nat_lt 9999 (number 0 v)) parts) ∙ wrong);
      };
      fault = same ∙ ap Number there;
    })
    (λ wrong g. absurd cc) e

opened_state : (o : Option Lex) (w : List ℕ) → is_field_open o ≡ true → is_state (lexed_from w o) ≡ true → is_state (lexed FieldOpen w) ≡ true
opened_state (Some FieldOpen) w e b = b
opened_state _ w e b = absurd cc

-- a field is at fault behind the bytes so far
pub field_wrong : (w u : List ℕ) (at from : ℕ) (o : Option Lex) (f : Fault) → lexed Begin u ≡ o → at ≡ from + length u → is_state (lexed_from w o) ≡ true → field_fault at o w ≡ Some f → WrongAt WrongField Number from (u ++ w) f
field_wrong w u at from None f state place b e = absurd cc
field_wrong [] u at from (Some l) f state place b e = absurd cc
field_wrong (c ∷ w) u at from (Some l) f state place b e =
    cond_both (is_field_open (lex l c)) (field_value (at + 1) w) (field_fault (at + 1) (lex l c) w) (λ (o : Option Fault). o ≡ Some f → WrongAt WrongField Number from (u ++ c ∷ w) f)
    (λ opens g.
    let h = field_opens l c opens in
    let there : at + 1 ≡ from + length u + 1 = omega (arith, place) in
    subst (λ (x : ℕ). WrongAt WrongField Number from (u ++ x ∷ w) f) (sym (eqb-true c 91 h.1)) (value_wrong u w (at + 1) from f (ap is_last state ∙ h.0) there (opened_state (lex l c) w opens b) g))
    (λ opens g.
    let there : at + 1 ≡ from + length (u ++ c ∷ []) = omega (arith, place, length-append u (c ∷ [])) in
    subst (λ (v : List ℕ). WrongAt WrongField Number from v f) (append_assoc u (c ∷ []) w)
    (field_wrong w (u ++ c ∷ []) (at + 1) from (lex l c) f (lexed-append u (c ∷ []) (Some Begin) ∙ ap (lexed_from (c ∷ [])) state) there b g)) e

-- ---- what is at fault has a fault

-- names are at fault at no place where this holds of them, behind a name that has begun
abbrev Refused : (List ℕ → Bool) → List ℕ → List ℕ → Type 0
Refused is_tag name w = (at from : ℕ) → names_fault is_tag at from name w ≡ None → ⊥

name_refused : (is_tag : List ℕ → Bool) (v name u : List ℕ) → list_all is_name_byte v ≡ true → Refused is_tag (name ++ v) u → Refused is_tag name (v ++ u)
name_refused is_tag [] name u all h = λ at from e. h at from (subst (λ (n : List ℕ). names_fault is_tag at from n u ≡ None) (sym (append-nil name)) e)
name_refused is_tag (c ∷ v) name u all h = λ at from e.
    let both = and_parts (is_name_byte c) (list_all is_name_byte v) all in
    name_refused is_tag v (name ++ c ∷ []) u both.1 (λ a b g. h a b (subst (λ (n : List ℕ). names_fault is_tag a b n u ≡ None) (append_assoc name (c ∷ []) v) g)) (at + 1) from (sym (cond-true (is_name_byte c) _ _ both.0) ∙ e)

unknown_refused : (is_tag : List ℕ → Bool) (c : ℕ) (name behind : List ℕ) → ends_there is_name_byte behind ≡ true → is_tag (c ∷ name) ≡ false → Refused is_tag (c ∷ name) behind
unknown_refused is_tag c name [] end unknown = λ at from e. let t = tag_is is_tag c name from e in absurd cc
unknown_refused is_tag c name (d ∷ behind) end unknown = λ at from e.
    let t = tag_is is_tag c name from (or_else_none _ _ (sym (cond-false (is_name_byte d) _ _ (not-true (is_name_byte d) end)) ∙ e)).0 in
    absurd cc

names_refused : (is_tag : List ℕ → Bool) (tags : List (List ℕ)) (c : ℕ) (name behind : List ℕ) → list_all (is_all is_name_byte) tags ≡ true → list_all is_name_byte (c ∷ name) ≡ true → ends_there is_name_byte behind ≡ true → is_tag (c ∷ name) ≡ false
    → Refused is_tag [] (before_comma tags ++ ((c ∷ name) ++ behind))
names_refused is_tag [] c name behind are all end unknown = name_refused is_tag (c ∷ name) [] behind all (unknown_refused is_tag c name behind end unknown)
names_refused is_tag (tag ∷ tags) c name behind are all end unknown =
    let both = and_parts (is_all is_name_byte tag) (list_all (is_all is_name_byte) tags) are in
    let later = names_refused is_tag tags c name behind both.1 all end unknown in
    let rest = before_comma tags ++ ((c ∷ name) ++ behind) in
    subst (λ (w : List ℕ). Refused is_tag [] w) (sym (append_assoc tag (44 ∷ before_comma tags) ((c ∷ name) ++ behind)))
    (name_refused is_tag tag [] (44 ∷ rest) (and_parts (nat_lt 0 (length tag)) (list_all is_name_byte tag) both.0).1 (λ at from e. later (at + 1) (at + 1) (or_else_none _ _ e).1))

-- names begin with a byte of them
comma_begins : (tags : List (List ℕ)) (v : List ℕ) → list_all (is_all is_name_byte) tags ≡ true → begins_there is_name_byte v ≡ true → begins_there is_name_byte (before_comma tags ++ v) ≡ true
comma_begins [] v are e = e
comma_begins ([] ∷ tags) v are e = absurd cc
comma_begins ((c ∷ tag) ∷ tags) v are e = (and_parts (is_name_byte c) (list_all is_name_byte tag) (and_parts (nat_lt 0 (length (c ∷ tag))) (list_all is_name_byte (c ∷ tag)) (and_parts (is_all is_name_byte (c ∷ tag)) (list_all (is_all is_name_byte) tags) are).0).1).0

brace_refused : (is_tag : List ℕ → Bool) (u v : List ℕ) → list_all (λ c. not (c == 125)) u ≡ true → Refused is_tag [] v → (at : ℕ) → behind_level is_tag at (u ++ 125 ∷ v) ≡ None → ⊥
brace_refused is_tag [] v all h at e = h (at + 1) (at + 1) e
brace_refused is_tag (c ∷ u) v all h at e =
    let both = and_parts (not (c == 125)) (list_all (λ c. not (c == 125)) u) all in
    brace_refused is_tag u v both.1 h (at + 1) (sym (cond-false (c == 125) _ _ (not-true (c == 125) both.0)) ∙ e)

tags_refused : (is_tag : List ℕ → Bool) (level : Option Level) (v : List ℕ) → is_level level ≡ true → begins_there is_name_byte v ≡ true → Refused is_tag [] v → (at : ℕ) → tags_fault is_tag at (level_text level ++ v) ≡ None → ⊥
tags_refused is_tag None [] good names h at e = absurd cc
tags_refused is_tag None (c ∷ v) good names h at e = h at at (sym (cond-false (c == 123) _ _ (no_name_brace c names)) ∙ e)
tags_refused is_tag (Some l) v good names h at e =
    let digits = (and_parts (nat_lt 0 (length l.digits)) (list_all is_digit l.digits) good).1 in
    let bytes : level_text (Some l) ++ v ≡ 123 ∷ ((l.digits ++ sign_text l.operator) ++ 125 ∷ v) = level_bytes l v ∙ ap (λ (w : List ℕ). 123 ∷ w) (sym (append_assoc l.digits (sign_text l.operator) (125 ∷ v))) in
    brace_refused is_tag (l.digits ++ sign_text l.operator) v (no_close l.digits l.operator digits) h (at + 1) (sym (ap (tags_fault is_tag at) bytes) ∙ e)

-- a name that is no tag is a fault of the names
name_fault_at : (is_tag : List ℕ → Bool) (level : Option Level) (tags : List (List ℕ)) (name behind : List ℕ) (at : ℕ) → is_level level ≡ true → list_all (is_all is_name_byte) tags ≡ true → is_run is_name_byte name behind ≡ true → is_tag name ≡ false
    → tags_fault is_tag at (level_text level ++ (before_comma tags ++ (name ++ behind))) ≡ None → ⊥
name_fault_at is_tag level tags [] behind at is are run unknown e = absurd cc
name_fault_at is_tag level tags (c ∷ name) behind at is are run unknown e =
    let both = and_parts (is_all is_name_byte (c ∷ name)) (ends_there is_name_byte behind) run in
    let all = (and_parts (nat_lt 0 (length (c ∷ name))) (list_all is_name_byte (c ∷ name)) both.0).1 in
    tags_refused is_tag level (before_comma tags ++ ((c ∷ name) ++ behind)) is (comma_begins tags ((c ∷ name) ++ behind) are (and_parts (is_name_byte c) (list_all is_name_byte name) all).0) (names_refused is_tag tags c name behind are all both.1 unknown) at e

pub unknown_fault : (is_tag : List ℕ → Bool) (w : List ℕ) (at n : ℕ) → tags_fault is_tag at w ≡ None → UnknownName is_tag w n → ⊥
unknown_fault is_tag w at n e h = name_fault_at is_tag h.level h.tags h.name h.behind at h.is h.are h.run h.unknown (sym (ap (tags_fault is_tag at) h.parts) ∙ e)

-- and a level that is too great is one
great_level : (digits behind : List ℕ) → is_run is_digit digits behind ≡ true → 9999 < digits_value 10 digits → 9999 < number 0 (digits ++ behind)
great_level digits behind run great =
    let both = and_parts (is_all is_digit digits) (ends_there is_digit behind) run in
    elim (number_is digits behind 0 (and_parts (nat_lt 0 (length digits)) (list_all is_digit digits) both.0).1 both.1) [ inl same ↦ omega (arith, same, great) | inr two ↦ two.0 ]

pub great_fault : (w : List ℕ) (at n : ℕ) → level_fault at w ≡ None → WrongLevel w n → ⊥
great_fault w at n e h =
    let some : Some (Number (at + 1)) ≡ None = sym (cond-true (nat_lt 9999 (number 0 (h.digits ++ h.behind))) _ _ (lt-ltb 9999 _ (great_level h.digits h.behind h.run h.great))) ∙ sym (ap (level_fault at) h.parts) ∙ e in
    absurd cc

-- ---- and so is a wrong field

no_last : (w : List ℕ) → is_last (lexed_from w None) ≡ true → ⊥
no_last [] e = absurd cc
no_last (c ∷ w) e = absurd cc

-- in a field, or behind one
abbrev in_field : Lex → Bool
in_field FieldOpen = true
in_field Field = true
in_field Done = true
in_field _ = false

abbrev FieldEnds : List ℕ → List ℕ → Option Lex → Type 0
FieldEnds u v o = is_last (lexed_from u o) ≡ true → is_state (lexed_from (u ++ 91 ∷ v) o) ≡ true → ⊥

none_ends : (u v : List ℕ) → FieldEnds u v None
none_ends u v whole b = no_last u whole

-- behind a field no other one begins
field_ends : (u v : List ℕ) (l : Lex) → in_field l ≡ true → FieldEnds u v (Some l)
field_ends [] v FieldOpen e whole b = absurd cc
field_ends [] v Field e whole b = absurd cc
field_ends [] v Done e whole b = no_way v b
field_ends (c ∷ u) v FieldOpen e whole b = cond_both (is_digit c) (Some Field) None (FieldEnds u v) (λ t. field_ends u v Field refl) (λ t. none_ends u v) whole b
field_ends (c ∷ u) v Field e whole b =
    cond_both (is_digit c) (Some Field) (cond (c == 93) (Some Done) None) (FieldEnds u v) (λ t. field_ends u v Field refl) (λ t. cond_both (c == 93) (Some Done) None (FieldEnds u v) (λ d. field_ends u v Done refl) (λ d. none_ends u v)) whole b
field_ends (c ∷ u) v Done e whole b = none_ends u v whole b
field_ends _ v _ e whole b = absurd cc

-- a field begins at a bracket behind what may end, and goes on
bracket_begins : (l : Lex) (v : List ℕ) → may_end l ≡ true → is_state (lexed_from v (lex l 91)) ≡ true → is_field_open (lex l 91) ≡ true
bracket_begins InName v e b = refl
bracket_begins (InWord Prefix) v e b = refl
bracket_begins (TextDone Prefix) v e b = refl
bracket_begins (InWord Operand) v e b = absurd (no_way v b)
bracket_begins (TextDone Operand) v e b = absurd (no_way v b)
bracket_begins Done v e b = absurd (no_way v b)
bracket_begins _ v e b = absurd cc

-- what is read as a field behind what would be a criterion without it
abbrev Asked : List ℕ → Type 0
Asked v = (at : ℕ) × (field_value at v ≡ None)

abbrev Asks : List ℕ → List ℕ → Option Lex → Type 0
Asks u v o = (at : ℕ) → is_last (lexed_from u o) ≡ true → is_state (lexed_from (u ++ 91 ∷ v) o) ≡ true → field_fault at o (u ++ 91 ∷ v) ≡ None → Asked v

none_asks : (u v : List ℕ) → Asks u v None
none_asks u v at whole b e = absurd (no_last u whole)

opens_ends : (u v : List ℕ) (o : Option Lex) → is_field_open o ≡ true → FieldEnds u v o
opens_ends u v (Some FieldOpen) e = field_ends u v FieldOpen refl
opens_ends u v _ e = absurd cc

field_asked : (u v : List ℕ) (o : Option Lex) → Asks u v o
field_asked u v None at whole b e = none_asks u v at whole b e
field_asked [] v (Some l) at whole b e = (at + 1, sym (cond-true (is_field_open (lex l 91)) _ _ (bracket_begins l v whole b)) ∙ e)
field_asked (c ∷ u) v (Some l) at whole b e =
    cond_both (is_field_open (lex l c)) (field_value (at + 1) (u ++ 91 ∷ v)) (field_fault (at + 1) (lex l c) (u ++ 91 ∷ v)) (λ o. o ≡ None → Asked v)
    (λ opens g. absurd (opens_ends u v (lex l c) opens whole b)) (λ opens g. field_asked u v (lex l c) (at + 1) whole b g) e

-- a number that is read as none at fault is in range
in_range : (c : ℕ) (w : List ℕ) (at m : ℕ) → SameNumber (number 0 (c ∷ w)) m → field_value at (c ∷ w) ≡ None → (1 ≤ m) × (m ≤ 9999)
in_range c w at m same =
    let n = number 0 (c ∷ w) in
    cond_both ((n == 0) || nat_lt 9999 n) (Some (Number at)) None (λ o. o ≡ None → (1 ≤ m) × (m ≤ 9999)) (λ b e. absurd cc)
    (λ b e.
    let both = or_parts (n == 0) (nat_lt 9999 n) b in
    let some : n ≢ 0 = λ z. (let t = eq-eqb n 0 z in absurd cc) in
    let most : n ≤ 9999 = ltb-false 9999 n both.1 in
    elim same [ inl is ↦ (omega (arith, is, some), omega (arith, is, most)) | inr two ↦ absurd (omega (arith, two.0, most)) ])

asked_field : (digits behind : List ℕ) → is_run is_digit digits behind ≡ true → Asked (digits ++ behind) → (1 ≤ digits_value 10 digits) × (digits_value 10 digits ≤ 9999)
asked_field [] behind run asked = absurd cc
asked_field (c ∷ digits) behind run asked =
    let both = and_parts (is_all is_digit (c ∷ digits)) (ends_there is_digit behind) run in
    in_range c (digits ++ behind) asked.0 (digits_value 10 (c ∷ digits)) (number_is (c ∷ digits) behind 0 (and_parts (nat_lt 0 (length (c ∷ digits))) (list_all is_digit (c ∷ digits)) both.0).1 both.1) asked.1

pub wrong_fault : (w : List ℕ) (at n : ℕ) → begins_from Begin w ≡ true → field_fault at (Some Begin) w ≡ None → WrongField w n → ⊥
wrong_fault w at n b e h =
    let asked = field_asked h.front (h.digits ++ h.behind) (Some Begin) at h.whole (sym (ap (begins_from Begin) h.parts) ∙ b) (sym (ap (field_fault at (Some Begin)) h.parts) ∙ e) in
    h.wrong (asked_field h.digits h.behind h.run asked)
