-- The pieces of a whole criterion are its level, names, prefix and field.
use Rattle.std.proofs.Common.{◌≡◌, ℕ, suc, ◌+◌, ◌-◌, ◌*◌, ◌≤◌, ◌==◌, Bool, true, false, cond, List, [], ◌∷◌, ◌++◌, length, take, drop, Option, Some, None, option_map, refl, sym, ap, subst, ◌∙◌, append_assoc, arith}
use Rattle.std.specs.Prelude.{nat_lt, ◌||◌}
use Rattle.std.specs.Char.{digit_value}
use Rattle.std.specs.List.{list_all}
use Rattle.std.specs.Option.{option_or}
use Rattle.std.specs.Str.Parse.{digits_value, digits_value_after}
use Rattle.std.proofs.Math.Seq.{take-append_seam, drop-append_seam, drop-append-add}
use Rattle.std.proofs.lemmas.List.{append-nil}
use Rattle.std.proofs.lemmas.List.Folds.{list_all-append}
use Rattle.std.proofs.lemmas.Bool.{and_parts, and_from, cond_both, cond-true, cond-false, not-true}
use Rattle.std.proofs.lemmas.Bool.Decides.{nat_tests}
use Rattle.vsl_tags.specs.TagSet.{elements, matches_any, element_fault, first_fault, first_fault_from}
use Rattle.vsl_tags.specs.declared.tag_set.TagFault.{TagFault}
use Rattle.query_grammar.specs.declared.lex.Lex.{Lex}
use Rattle.query_grammar.specs.declared.lex.Part.TheVariants.{Prefix}
use Rattle.query_grammar.specs.declared.lex.Lex.TheVariants.{Begin, InName, InWord, TextDone, FieldOpen, Field, Done}
use Rattle.query_grammar.specs.Bytes.{is_digit, is_name_byte}
use Rattle.query_grammar.specs.Lexical.{lex, lex_if, lexed, lexed_from, is_last, whole_from}
use Rattle.query_grammar.specs.Criterion as written
use Rattle.query_grammar.specs.Criterion.{is_all, LevelSign, OrMore, OrLess, sign_text, level_text, is_level, Text, Parts, criterion_text, is_criterion, names_of, joined_names, prefix_text, is_some_text, field_text, is_field, meant_by}
use Rattle.query_grammar.specs.Scanner.{Fault, UnknownTag, Number}
use Rattle.query_grammar.specs.Judging.{number, name_fault, names_fault, behind_level, tags_fault, level_fault, is_field_open, field_value, field_fault, criterion_fault}
use Rattle.query_grammar.proofs.Lexing.{lexed-append}
use Rattle.query_grammar.proofs.Levels.{begins_there, name_begins, regroup, is_good, criterion_taken, criterion_from}
use Rattle.query_grammar.proofs.OneParts.{ends_there, no_name_brace, sign_ends, level_bytes}
use Rattle.query_grammar.proofs.Fine.{or_else_none}
use Rattle.query_grammar.proofs.Meanings.{meaning_is}
use Rattle.query_parser.specs.declared.criterion.Kind.TheVariants.{Names, InLevel}
use Rattle.query_parser.specs.declared.test.Bound.{Bound}
use Rattle.query_parser.specs.Meant.{bound_of, level_meant, field_meant}
use Rattle.query_parser.specs.inside.Pieces.{is_of, leading, without_first, bracket_from, bracket, before_field, field_number, bound_at, first_level, level_rest, prefix_at, behind_brace, behind_comma}
use Rattle.query_parser.proofs.CriterionFaults.{behind, names_is, brace_is, field_some}
use Rattle.query_parser.proofs.CriterionNames.{name_in_names, one_element, first_element}

-- ---- bytes of a kind

-- none of the first bytes pass where the first does not
leading_none : (test : ℕ → Bool) (v : List ℕ) → ends_there test v ≡ true → leading test v ≡ 0
leading_none test [] e = refl
leading_none test (c ∷ v) e = cond-false (test c) _ _ (not-true (test c) e)

-- bytes that pass, and then one that doesn't
leading_is : (test : ℕ → Bool) (w v : List ℕ) → list_all test w ≡ true → ends_there test v ≡ true → leading test (w ++ v) ≡ length w
leading_is test [] v all ends = leading_none test v ends
leading_is test (c ∷ w) v all ends =
    let both = and_parts (test c) (list_all test w) all in
    cond-true (test c) _ _ both.0 ∙ ap suc (leading_is test w v both.1 ends)

-- the first bytes that pass
take_leading : (test : ℕ → Bool) (w v : List ℕ) → list_all test w ≡ true → ends_there test v ≡ true → take (leading test (w ++ v)) (w ++ v) ≡ w
take_leading test w v all ends = ap (λ (n : ℕ). take n (w ++ v)) (leading_is test w v all ends) ∙ take-append_seam w v

-- what stands behind the first bytes that pass
drop_leading : (test : ℕ → Bool) (w v : List ℕ) → list_all test w ≡ true → ends_there test v ≡ true → drop (leading test (w ++ v)) (w ++ v) ≡ v
drop_leading test w v all ends = ap (λ (n : ℕ). drop n (w ++ v)) (leading_is test w v all ends) ∙ drop-append_seam w v

-- ---- a number

-- one digit more
digit_is : (n c : ℕ) → is_digit c ≡ true → 10 * n + (c - 48) ≡ n * 10 + digit_value c
digit_is n c e = grind (arith, nat_tests)

-- a number ends where no digit follows
number_none : (n : ℕ) (v : List ℕ) → ends_there is_digit v ≡ true → number n v ≡ n
number_none n [] e = refl
number_none n (c ∷ v) e = cond-false (is_digit c) _ _ (not-true (is_digit c) e)

-- the same behind digits that were read
number_from : (n : ℕ) (w v : List ℕ) → list_all is_digit w ≡ true → ends_there is_digit v ≡ true → number n (w ++ v) ≤ 9999 → number n (w ++ v) ≡ digits_value_after 10 n w
number_from n [] v all ends most = number_none n v ends
number_from n (c ∷ w) v all ends most =
    let both = and_parts (is_digit c) (list_all is_digit w) all in
    let first : number n ((c ∷ w) ++ v) ≡ cond (nat_lt 9999 n) n (number (10 * n + (c - 48)) (w ++ v)) = cond-true (is_digit c) _ _ both.0 in
    let within : cond (nat_lt 9999 n) n (number (10 * n + (c - 48)) (w ++ v)) ≤ 9999 = rw (← first) most in
    first ∙ cond_both (nat_lt 9999 n) n (number (10 * n + (c - 48)) (w ++ v)) (λ (m : ℕ). m ≤ 9999 → m ≡ digits_value_after 10 n (c ∷ w))
    (λ great le. absurd (grind (arith, nat_tests)))
    (λ small le. number_from (10 * n + (c - 48)) w v both.1 ends le ∙ ap (λ (m : ℕ). digits_value_after 10 m w) (digit_is n c both.0)) within

-- a number ends where its digits end
number_same : (n : ℕ) (w v u : List ℕ) → list_all is_digit w ≡ true → ends_there is_digit v ≡ true → ends_there is_digit u ≡ true → number n (w ++ v) ≡ number n (w ++ u)
number_same n [] v u all e f = number_none n v e ∙ sym (number_none n u f)
number_same n (c ∷ w) v u all e f =
    let both = and_parts (is_digit c) (list_all is_digit w) all in
    ap (λ (m : ℕ). cond (is_digit c) (cond (nat_lt 9999 n) n m) n) (number_same (10 * n + (c - 48)) w v u both.1 e f)

-- a number that isn't too great is that of its digits
number_is : (w v : List ℕ) → list_all is_digit w ≡ true → ends_there is_digit v ≡ true → number 0 (w ++ v) ≤ 9999 → number 0 (w ++ v) ≡ digits_value 10 w
number_is w v all ends most = number_from 0 w v all ends most

-- ---- a level

-- a digit does not close a level
digit_open : (c : ℕ) → is_digit c ≡ true → is_of InLevel c ≡ true
digit_open c e = grind (arith, nat_tests)

-- digits do not close a level
digits_open : (w : List ℕ) → list_all is_digit w ≡ true → list_all (is_of InLevel) w ≡ true
digits_open [] e = refl
digits_open (c ∷ w) e =
    let both = and_parts (is_digit c) (list_all is_digit w) e in
    and_from (is_of InLevel c) (list_all (is_of InLevel) w) (digit_open c both.0) (digits_open w both.1)

-- a sign does not close a level
sign_open : (s : Option LevelSign) → list_all (is_of InLevel) (sign_text s) ≡ true
sign_open None = refl
sign_open (Some OrMore) = refl
sign_open (Some OrLess) = refl

-- what stands behind the digits says the bound
sign_bound : (s : Option LevelSign) (a : List ℕ) → bound_at (sign_text s ++ 125 ∷ a) ≡ bound_of s
sign_bound None a = refl
sign_bound (Some OrMore) a = refl
sign_bound (Some OrLess) a = refl

-- there is no fault only where the test fails
none_else : (b : Bool) (f : Fault) → cond b (Some f) None ≡ None → b ≡ false
none_else true f e = absurd cc
none_else false f e = refl

-- a number that is not too great
small_number : (n : ℕ) → nat_lt 9999 n ≡ false → n ≤ 9999
small_number n e = grind (arith, nat_tests)

-- what a level's digits, sign and brace say
level_some : (l : written.Level) (a b : List ℕ) → is_all is_digit l.digits ≡ true → level_fault 0 (level_text (Some l) ++ b) ≡ None → first_level (level_text (Some l) ++ a) ≡ level_meant (Some l)
level_some l a b good fine =
    let all = (and_parts (nat_lt 0 (length l.digits)) (list_all is_digit l.digits) good).1 in
    let rest = sign_text l.operator ++ 125 ∷ a in
    let other = sign_text l.operator ++ 125 ∷ b in
    let found : level_fault 0 (123 ∷ (l.digits ++ other)) ≡ None = ap (level_fault 0) (sym (level_bytes l b)) ∙ fine in
    let same : number 0 (l.digits ++ rest) ≡ number 0 (l.digits ++ other) = number_same 0 l.digits rest other all (sign_ends l.operator a) (sign_ends l.operator b) in
    let most : number 0 (l.digits ++ rest) ≤ 9999 = rw same (small_number (number 0 (l.digits ++ other)) (none_else (nat_lt 9999 (number 0 (l.digits ++ other))) (Number 1) found)) in
    ap first_level (level_bytes l a)
    ∙ ap (λ (n : ℕ). Some (record { number = n; bound = bound_at (drop (leading is_digit (l.digits ++ rest)) (l.digits ++ rest)) })) (number_is l.digits rest all (sign_ends l.operator a) most)
    ∙ ap (λ (w : List ℕ). Some (record { number = digits_value 10 l.digits; bound = bound_at w })) (drop_leading is_digit l.digits rest all (sign_ends l.operator a))
    ∙ ap (λ (b : Bound). Some (record { number = digits_value 10 l.digits; bound = b })) (sign_bound l.operator a)

-- the brace stands behind the digits and the sign
brace_cut : (l : written.Level) (a : List ℕ) → is_all is_digit l.digits ≡ true → drop (leading (is_of InLevel) (l.digits ++ (sign_text l.operator ++ 125 ∷ a))) (l.digits ++ (sign_text l.operator ++ 125 ∷ a)) ≡ 125 ∷ a
brace_cut l a good =
    let all = (and_parts (nat_lt 0 (length l.digits)) (list_all is_digit l.digits) good).1 in
    let both : list_all (is_of InLevel) (l.digits ++ sign_text l.operator) ≡ true = list_all-append (is_of InLevel) l.digits (sign_text l.operator) ∙ and_from _ _ (digits_open l.digits all) (sign_open l.operator) in
    ap (λ (w : List ℕ). drop (leading (is_of InLevel) w) w) (sym (append_assoc l.digits (sign_text l.operator) (125 ∷ a)))
    ∙ drop_leading (is_of InLevel) (l.digits ++ sign_text l.operator) (125 ∷ a) both refl

-- the level is read where it is no greater than it may be
level_is : (level : Option written.Level) (a b : List ℕ) → is_level level ≡ true → begins_there is_name_byte a ≡ true → level_fault 0 (level_text level ++ b) ≡ None → first_level (level_text level ++ a) ≡ level_meant level
level_is None [] b good begins fine = absurd cc
level_is None (c ∷ a) b good begins fine = cond-false (c == 123) _ _ (no_name_brace c begins)
level_is (Some l) a b good begins fine = level_some l a b good fine

-- the names stand behind the level
rest_is : (level : Option written.Level) (a : List ℕ) → is_level level ≡ true → begins_there is_name_byte a ≡ true → level_rest (level_text level ++ a) ≡ a
rest_is None [] good begins = absurd cc
rest_is None (c ∷ a) good begins = cond-false (c == 123) _ _ (no_name_brace c begins)
rest_is (Some l) a good begins = ap level_rest (level_bytes l a) ∙ ap without_first (brace_cut l a good)

-- names without a fault stand behind the level
tags_behind : (is_tag : List ℕ → Bool) (level : Option written.Level) (a : List ℕ) → is_level level ≡ true → begins_there is_name_byte a ≡ true → tags_fault is_tag 0 (level_text level ++ a) ≡ None → (at : ℕ) × (names_fault is_tag at at [] a ≡ None)
tags_behind is_tag None [] good begins fine = absurd cc
tags_behind is_tag None (c ∷ a) good begins fine = (0, sym (cond-false (c == 123) _ _ (no_name_brace c begins)) ∙ fine)
tags_behind is_tag (Some l) a good begins fine =
    let w = l.digits ++ (sign_text l.operator ++ 125 ∷ a) in
    let found : behind_level is_tag (0 + 1) w ≡ None = ap (tags_fault is_tag 0) (sym (level_bytes l a)) ∙ fine in
    let at = 0 + 1 + leading (is_of InLevel) w in
    (at + 1, ap (behind_brace is_tag at) (sym (brace_cut l a good)) ∙ sym (brace_is is_tag w (0 + 1)) ∙ found)

-- ---- names

-- names and the commas between them
joined_all : (names : List (List ℕ)) → list_all (is_all is_name_byte) names ≡ true → list_all (is_of Names) (joined_names names) ≡ true
joined_all [] e = refl
joined_all (name ∷ []) e =
    let good = and_parts (nat_lt 0 (length name)) (list_all is_name_byte name) (and_parts (is_all is_name_byte name) true e).0 in
    name_in_names name good.1
joined_all (name ∷ other ∷ names) e =
    let both = and_parts (is_all is_name_byte name) (list_all (is_all is_name_byte) (other ∷ names)) e in
    let good = and_parts (nat_lt 0 (length name)) (list_all is_name_byte name) both.0 in
    list_all-append (is_of Names) name (44 ∷ joined_names (other ∷ names)) ∙ and_from _ _ (name_in_names name good.1) (joined_all (other ∷ names) both.1)

-- there is no fault only where the test passes
tag_passes : (b : Bool) (f : Fault) → cond b None (Some f) ≡ None → b ≡ true
tag_passes true f e = refl
tag_passes false f e = absurd cc

-- a name without a fault is an element without one
element_fine : (at k : ℕ) (name : List ℕ) → is_all is_name_byte name ≡ true → name_fault matches_any at name ≡ None → element_fault k name ≡ None
element_fine at k [] good fine = absurd cc
element_fine at k (c ∷ name) good fine = cond-true (matches_any (c ∷ name)) _ _ (tag_passes (matches_any (c ∷ name)) (UnknownTag at) fine)

-- the first name has no fault, and those behind its comma have none
first_fine : (at : ℕ) (name v : List ℕ) → is_all is_name_byte name ≡ true → ends_there is_name_byte v ≡ true → names_fault matches_any at at [] (name ++ v) ≡ None → (name_fault matches_any at name ≡ None) × (behind_comma matches_any (at + length name) v ≡ None)
first_fine at name v good ends fine =
    let all = (and_parts (nat_lt 0 (length name)) (list_all is_name_byte name) good).1 in
    let both = or_else_none _ _ (sym (names_is matches_any at (name ++ v)) ∙ fine) in (
      ap (name_fault matches_any at) (sym (take_leading is_name_byte name v all ends)) ∙ both.0,
      ap (λ (w : List ℕ). behind_comma matches_any (at + length name) w) (sym (drop_leading is_name_byte name v all ends))
          ∙ ap (λ (m : ℕ). behind_comma matches_any (at + m) (drop (leading is_name_byte (name ++ v)) (name ++ v))) (sym (leading_is is_name_byte name v all ends))
          ∙ both.1,
    )

-- elements have no fault where the first and the others have none
element_then : (k : ℕ) (name : List ℕ) (more : List (List ℕ)) → element_fault k name ≡ None → first_fault_from (k + length name + 1) more ≡ None → first_fault_from k (name ∷ more) ≡ None
element_then k name more first later = ap (λ (o : Option TagFault). option_or o (first_fault_from (k + length name + 1) more)) first ∙ later

-- names without a fault are a taglist without one
names_fine : (at k : ℕ) (name : List ℕ) (more : List (List ℕ)) (v : List ℕ) → list_all (is_all is_name_byte) (name ∷ more) ≡ true → ends_there is_name_byte v ≡ true → names_fault matches_any at at [] (joined_names (name ∷ more) ++ v) ≡ None → first_fault_from k (elements (joined_names (name ∷ more))) ≡ None
names_fine at k name [] v good ends fine =
    let one = (and_parts (is_all is_name_byte name) true good).0 in
    let all = (and_parts (nat_lt 0 (length name)) (list_all is_name_byte name) one).1 in
    ap (first_fault_from k) (one_element name all) ∙ element_then k name [] (element_fine at k name one (first_fine at name v one ends fine).0) refl
names_fine at k name (other ∷ more) v good ends fine =
    let both = and_parts (is_all is_name_byte name) (list_all (is_all is_name_byte) (other ∷ more)) good in
    let all = (and_parts (nat_lt 0 (length name)) (list_all is_name_byte name) both.0).1 in
    let rest = joined_names (other ∷ more) in
    let found : names_fault matches_any at at [] (name ++ 44 ∷ (rest ++ v)) ≡ None = ap (names_fault matches_any at at []) (sym (append_assoc name (44 ∷ rest) v)) ∙ fine in
    let parts = first_fine at name (44 ∷ (rest ++ v)) both.0 refl found in
    ap (first_fault_from k) (first_element name rest all)
    ∙ element_then k name (elements rest) (element_fine at k name both.0 parts.0) (names_fine (at + length name + 1) (k + length name + 1) other more v both.1 ends parts.1)

-- ---- a field

-- a state before the bracket of a field
abbrev early : Option Lex → Bool
early None = false
early (Some FieldOpen) = false
early (Some Field) = false
early (Some Done) = false
early (Some _) = true

-- a byte that leads behind the bracket, or nowhere
never_early : (b : Bool) (l : Lex) → early (Some l) ≡ false → early (lex_if b l None) ≡ true → ⊥
never_early true l e f = absurd cc
never_early false l e f = absurd cc

-- a byte of a field, or its end, or neither
never_early_two : (b d : Bool) → early (lex_if b Field (lex_if d Done None)) ≡ true → ⊥
never_early_two true d f = absurd cc
never_early_two false true f = absurd cc
never_early_two false false f = absurd cc

-- no byte leads back before the bracket
early_back : (l : Lex) (c : ℕ) → early (lex l c) ≡ true → early (Some l) ≡ true
early_back FieldOpen c e = absurd (never_early (is_digit c) Field refl e)
early_back Field c e = absurd (never_early_two (is_digit c) (c == 93) e)
early_back Done c e = absurd cc
early_back _ _ _ = refl

-- no bytes lead back before the bracket
early_from : (w : List ℕ) (o : Option Lex) → early (lexed_from w o) ≡ true → early o ≡ true
early_from [] o e = e
early_from (c ∷ w) None e = absurd cc
early_from (c ∷ w) (Some l) e = early_back l c (early_from w (lex l c) e)

-- a state before the bracket opens no field
not_open : (o : Option Lex) → early o ≡ true → is_field_open o ≡ false
not_open None e = absurd cc
not_open (Some FieldOpen) e = absurd cc
not_open (Some Field) e = absurd cc
not_open (Some Done) e = absurd cc
not_open (Some _) e = refl

-- a place behind no bytes
behind_zero : (o : Option ℕ) → o ≡ behind 0 o
behind_zero None = refl
behind_zero (Some m) = let e : m ≡ 0 + m = omega arith in ap Some e

-- one byte more before a place
suc_behind : (n : ℕ) (o : Option ℕ) → option_map suc (behind n o) ≡ behind (suc n) o
suc_behind n None = refl
suc_behind n (Some m) = let e : suc (n + m) ≡ suc n + m = omega arith in ap Some e

-- bytes that lead to a state before the bracket have none
bracket_behind : (w v : List ℕ) (o : Option Lex) → early (lexed_from w o) ≡ true → bracket_from o (w ++ v) ≡ behind (length w) (bracket_from (lexed_from w o) v)
bracket_behind [] v o e = behind_zero (bracket_from o v)
bracket_behind (c ∷ w) v None e = absurd cc
bracket_behind (c ∷ w) v (Some l) e =
    cond-false (is_field_open (lex l c)) _ _ (not_open (lex l c) (early_from w (lex l c) e))
    ∙ ap (option_map suc) (bracket_behind w v (lex l c) e)
    ∙ suc_behind (length w) (bracket_from (lexed_from w (lex l c)) v)

-- a state in which a criterion may end, or its field begin
record Opens (o : Option Lex) : Type 0 where
  state : Lex
  is : o ≡ Some state
  opens : lex state 91 ≡ Some FieldOpen
  before : early o ≡ true

-- where a criterion may end, and go on with a field, its field begins
opens_from : (o : Option Lex) → is_last o ≡ true → is_last (lexed_from (91 ∷ 49 ∷ 93 ∷ []) o) ≡ true → Opens o
opens_from (Some InName) e f = record { state = InName; is = refl; opens = refl; before = refl }
opens_from (Some (InWord Prefix)) e f = record { state = InWord Prefix; is = refl; opens = refl; before = refl }
opens_from (Some (TextDone Prefix)) e f = record { state = TextDone Prefix; is = refl; opens = refl; before = refl }
opens_from _ e f = absurd cc

-- what stands before the field
abbrev pub front_of : Parts → List ℕ
front_of p = level_text p.level ++ joined_names (names_of p) ++ prefix_text p.prefix

-- any field may stand behind the front
any_field : (p : Parts) (field : Option (List ℕ)) → is_criterion p ≡ true → is_field field ≡ true → is_last (lexed Begin (front_of p ++ field_text field)) ≡ true
any_field p field good good_field = criterion_taken (record p { field = field }) (and_from _ _ (and_parts _ _ good).0 good_field)

-- behind the front a field may begin
front_opens : (p : Parts) → is_criterion p ≡ true → Opens (lexed Begin (front_of p))
front_opens p good =
    let alone : is_last (lexed Begin (front_of p)) ≡ true = ap (whole_from Begin) (sym (append-nil (front_of p))) ∙ any_field p None good refl in
    let one : is_last (lexed_from (91 ∷ 49 ∷ 93 ∷ []) (lexed Begin (front_of p))) ≡ true = ap is_last (sym (lexed-append (front_of p) (91 ∷ 49 ∷ 93 ∷ []) (Some Begin))) ∙ any_field p (Some (49 ∷ [])) good refl in
    opens_from (lexed Begin (front_of p)) alone one

-- the front has no bracket
bracket_is : (p : Parts) (good : is_criterion p ≡ true) (v : List ℕ) → bracket (front_of p ++ v) ≡ behind (length (front_of p)) (bracket_from (Some (front_opens p good).state) v)
bracket_is p good v =
    let h = front_opens p good in
    bracket_behind (front_of p) v (Some Begin) h.before ∙ ap (λ (o : Option Lex). behind (length (front_of p)) (bracket_from o v)) h.is

-- without a field there is no bracket
no_bracket : (p : Parts) → is_criterion p ≡ true → bracket (front_of p ++ []) ≡ None
no_bracket p good = bracket_is p good []

-- the bracket of a field stands behind the front
one_bracket : (p : Parts) (w : List ℕ) → is_criterion p ≡ true → bracket (front_of p ++ 91 ∷ w) ≡ Some (length (front_of p))
one_bracket p w good =
    let h = front_opens p good in
    let none : length (front_of p) + 0 ≡ length (front_of p) = omega arith in
    let here : bracket_from (Some h.state) (91 ∷ w) ≡ Some 0 = cond-true (is_field_open (lex h.state 91)) _ _ (ap is_field_open h.opens) in
    bracket_is p good (91 ∷ w) ∙ ap (behind (length (front_of p))) here ∙ ap Some none

-- what stands before the field is the front
before_is : (p : Parts) (field : Option (List ℕ)) → is_criterion p ≡ true → before_field (bracket (front_of p ++ field_text field)) (front_of p ++ field_text field) ≡ front_of p
before_is p None good = ap (λ (o : Option ℕ). before_field o (front_of p ++ [])) (no_bracket p good) ∙ append-nil (front_of p)
before_is p (Some digits) good =
    ap (λ (o : Option ℕ). before_field o (front_of p ++ 91 ∷ (digits ++ 93 ∷ []))) (one_bracket p (digits ++ 93 ∷ []) good) ∙ take-append_seam (front_of p) (91 ∷ (digits ++ 93 ∷ []))

-- neither holds
or_false : (a b : Bool) → (a || b) ≡ false → b ≡ false
or_false true b e = absurd cc
or_false false b e = e

-- a field without a fault is no greater than it may be
field_most : (at : ℕ) (w : List ℕ) → field_value at w ≡ None → number 0 w ≤ 9999
field_most at [] e = omega arith
field_most at (c ∷ w) e = small_number (number 0 (c ∷ w)) (or_false (number 0 (c ∷ w) == 0) (nat_lt 9999 (number 0 (c ∷ w))) (none_else ((number 0 (c ∷ w) == 0) || nat_lt 9999 (number 0 (c ∷ w))) (Number at) e))

-- the digits stand behind the bracket
digits_behind : (a w : List ℕ) → drop (length a + 1) (a ++ 91 ∷ w) ≡ w
digits_behind a w = drop-append-add a (91 ∷ w) 1

-- the field is read where it is no greater than it may be
field_number_is : (p : Parts) (field : Option (List ℕ)) → is_criterion p ≡ true → is_field field ≡ true → field_fault 0 (Some Begin) (front_of p ++ field_text field) ≡ None → field_number (bracket (front_of p ++ field_text field)) (front_of p ++ field_text field) ≡ field_meant field
field_number_is p None good good_field fine = ap (λ (o : Option ℕ). field_number o (front_of p ++ [])) (no_bracket p good)
field_number_is p (Some digits) good good_field fine =
    let a = front_of p in
    let w = digits ++ 93 ∷ [] in
    let all = (and_parts (nat_lt 0 (length digits)) (list_all is_digit digits) good_field).1 in
    let found : field_value (0 + length a + 1) (drop (length a + 1) (a ++ 91 ∷ w)) ≡ None = sym (field_some 0 (length a) (a ++ 91 ∷ w) (one_bracket p w good)) ∙ fine in
    let most : number 0 w ≤ 9999 = field_most (0 + length a + 1) w (ap (field_value (0 + length a + 1)) (sym (digits_behind a w)) ∙ found) in
    ap (λ (o : Option ℕ). field_number o (a ++ 91 ∷ w)) (one_bracket p w good)
    ∙ ap (λ (v : List ℕ). Some (number 0 v)) (digits_behind a w)
    ∙ ap Some (number_is digits (93 ∷ []) all refl most)

-- ---- all of it

-- what is cut from a criterion's text is what its parts mean
pub record IsCut (p : Parts) (text : List ℕ) : Type 0 where
  pub front : before_field (bracket text) text ≡ front_of p
  pub field : field_number (bracket text) text ≡ field_meant p.field
  pub level : first_level (front_of p) ≡ level_meant p.level
  pub rest : level_rest (front_of p) ≡ joined_names (names_of p) ++ prefix_text p.prefix
  pub names : take (leading (is_of Names) (joined_names (names_of p) ++ prefix_text p.prefix)) (joined_names (names_of p) ++ prefix_text p.prefix) ≡ joined_names (names_of p)
  pub prefix : drop (leading (is_of Names) (joined_names (names_of p) ++ prefix_text p.prefix)) (joined_names (names_of p) ++ prefix_text p.prefix) ≡ prefix_text p.prefix
  pub meant : prefix_at (prefix_text p.prefix) ≡ option_map meant_by p.prefix
  pub all : list_all (is_of Names) (joined_names (names_of p)) ≡ true
  pub fine : first_fault (joined_names (names_of p)) ≡ None

-- what stands behind the names is the prefix
prefix_meant : (prefix : Option Text) → is_some_text prefix ≡ true → prefix_at (prefix_text prefix) ≡ option_map meant_by prefix
prefix_meant None good = refl
prefix_meant (Some t) good = ap Some (meaning_is t good)

-- no byte of names stands behind the names
prefix_ends : (prefix : Option Text) → ends_there (is_of Names) (prefix_text prefix) ≡ true
prefix_ends None = refl
prefix_ends (Some t) = refl

-- no byte of a name stands behind the names
behind_ends : (prefix : Option Text) (field : Option (List ℕ)) → ends_there is_name_byte (prefix_text prefix ++ field_text field) ≡ true
behind_ends None None = refl
behind_ends None (Some digits) = refl
behind_ends (Some t) field = refl

-- the text of a criterion without a fault is cut into what its parts mean
criterion_cut : (p : Parts) → is_criterion p ≡ true → criterion_fault matches_any 0 (front_of p ++ field_text p.field) ≡ None → IsCut p (front_of p ++ field_text p.field)
criterion_cut p good fine =
    let names = joined_names (names_of p) in
    let prefix = prefix_text p.prefix in
    let field = field_text p.field in
    let level = level_text p.level in
    let is = is_good p good in
    let faults = or_else_none (tags_fault matches_any 0 (front_of p ++ field)) (option_or (level_fault 0 (front_of p ++ field)) (field_fault 0 (Some Begin) (front_of p ++ field))) fine in
    let numbers = or_else_none (level_fault 0 (front_of p ++ field)) (field_fault 0 (Some Begin) (front_of p ++ field)) faults.1 in
    let all : front_of p ++ field ≡ level ++ (names ++ (prefix ++ field)) = regroup level names prefix field in
    let begins : begins_there is_name_byte (names ++ prefix) ≡ true = name_begins p.name p.names prefix is.names in
    let begins_all : begins_there is_name_byte (names ++ (prefix ++ field)) ≡ true = name_begins p.name p.names (prefix ++ field) is.names in
    let level_none : level_fault 0 (level ++ (names ++ (prefix ++ field))) ≡ None = ap (level_fault 0) (sym all) ∙ numbers.0 in
    let tags_none : tags_fault matches_any 0 (level ++ (names ++ (prefix ++ field))) ≡ None = ap (tags_fault matches_any 0) (sym all) ∙ faults.0 in
    let behind_it = tags_behind matches_any p.level (names ++ (prefix ++ field)) is.level begins_all tags_none in
    let names_all = joined_all (names_of p) is.names in
    record {
      front = before_is p p.field good;
      field = field_number_is p p.field good is.field numbers.1;
      level = ap first_level (append_assoc level names prefix) ∙ level_is p.level (names ++ prefix) (names ++ (prefix ++ field)) is.level begins level_none;
      rest = ap level_rest (append_assoc level names prefix) ∙ rest_is p.level (names ++ prefix) is.level begins;
      names = take_leading (is_of Names) names prefix names_all (prefix_ends p.prefix);
      prefix = drop_leading (is_of Names) names prefix names_all (prefix_ends p.prefix);
      meant = prefix_meant p.prefix is.prefix;
      all = names_all;
      fine = names_fine behind_it.0 0 p.name p.names (prefix ++ field) is.names (behind_ends p.prefix p.field) behind_it.1;
    }

-- the parts of a whole criterion without a fault
pub record CutOf (text : List ℕ) : Type 0 where
  pub parts : Parts
  pub good : is_criterion parts ≡ true
  pub same : criterion_text parts ≡ text
  pub cut : IsCut parts text

-- a whole criterion without a fault is cut into what its parts mean
pub cut_of : (text : List ℕ) → whole_from Begin text ≡ true → criterion_fault matches_any 0 text ≡ None → CutOf text
cut_of text whole fine =
    let h = criterion_from text whole in
    let seen : front_of h.parts ++ field_text h.parts.field ≡ text = h.same in
    let found : criterion_fault matches_any 0 (front_of h.parts ++ field_text h.parts.field) ≡ None = ap (criterion_fault matches_any 0) seen ∙ fine in
    record { parts = h.parts; good = h.good; same = h.same; cut = subst (λ (w : List ℕ). IsCut h.parts w) seen (criterion_cut h.parts h.good found) }

-- what was cut are the front, the names and the prefix
pub record AreCut (p : Parts) (front names prefix : List ℕ) : Type 0 where
  pub front_is : front ≡ front_of p
  pub names_are : names ≡ joined_names (names_of p)
  pub prefix_is : prefix ≡ prefix_text p.prefix

-- what was cut by the steps of a reading
pub are_cut : (p : Parts) (text front rest names prefix : List ℕ) (n : ℕ) → IsCut p text → front ≡ before_field (bracket text) text → rest ≡ level_rest front → n ≡ leading (is_of Names) rest → names ≡ take n rest → prefix ≡ drop n rest → AreCut p front names prefix
are_cut p text front rest names prefix n cut front_is rest_is count names_are prefix_is =
    let front_same : front ≡ front_of p = front_is ∙ cut.front in
    let rest_same : rest ≡ joined_names (names_of p) ++ prefix_text p.prefix = rest_is ∙ ap level_rest front_same ∙ cut.rest in
    let taken : take n rest ≡ take (leading (is_of Names) rest) rest = ap (λ (m : ℕ). take m rest) count in
    let dropped : drop n rest ≡ drop (leading (is_of Names) rest) rest = ap (λ (m : ℕ). drop m rest) count in
    record {
      front_is = front_same;
      names_are = names_are ∙ taken ∙ ap (λ (w : List ℕ). take (leading (is_of Names) w) w) rest_same ∙ cut.names;
      prefix_is = prefix_is ∙ dropped ∙ ap (λ (w : List ℕ). drop (leading (is_of Names) w) w) rest_same ∙ cut.prefix;
    }
