-- Names as a taglist.
use Rattle.std.proofs.Common.{◌≡◌, ℕ, ◌<◌, ◌==◌, true, false, cond, List, [], ◌∷◌, ◌++◌, length, Option, Some, None, refl, sym, ap, ◌∙◌, arith}
use Rattle.std.specs.Prelude.{Result, Ok, Err, OnOk, IfErr, is_ok}
use Rattle.std.specs.List.{list_all, onto_first}
use Rattle.std.specs.Option.{option_or}
use Rattle.std.specs.Str.{IsUtf8, IsAscii}
use Rattle.std.proofs.lemmas.Str.{IsUtf8-from_ascii}
use Rattle.std.proofs.lemmas.Str.Ascii.{IsAscii-nil, IsAscii-cons}
use Rattle.std.proofs.lemmas.Bool.{and_parts, and_from, cond_both}
use Rattle.std.proofs.lemmas.Bool.Decides.{nat_tests}
use Rattle.std.proofs.lemmas.List.Splits.{slice_split-cons_no}
use Rattle.vsl_tags.specs.TagSet.{comma, elements, matches_any, first_fault, first_fault_from}
use Rattle.vsl_tags.specs.declared.tag_set.TagSet.{TagSet}
use Rattle.vsl_tags.specs.declared.tag_set.TagFault.{TagFault}
use Rattle.vsl_tags.specs.declared.tag_set.TagFault.TheVariants.{Unknown}
use Rattle.query_grammar.specs.Bytes.{is_name_byte}
use Rattle.query_parser.specs.declared.criterion.Kind.TheVariants.{Names}
use Rattle.query_parser.specs.inside.Pieces.{is_of}

-- ---- they are text

-- a byte of names is ASCII
names_byte_ascii : (c : ℕ) → is_of Names c ≡ true → c < 128
names_byte_ascii c e = grind (arith, nat_tests)

-- bytes of names are ASCII
names_ascii : (w : List ℕ) → list_all (is_of Names) w ≡ true → IsAscii w
names_ascii [] e = IsAscii-nil
names_ascii (c ∷ w) e =
    let both = and_parts (is_of Names c) (list_all (is_of Names) w) e in
    IsAscii-cons c w (names_byte_ascii c both.0) (names_ascii w both.1)

-- names and commas are text
pub names_utf8 : (w : List ℕ) → list_all (is_of Names) w ≡ true → IsUtf8 w
names_utf8 w e = IsUtf8-from_ascii w (names_ascii w e)

-- a byte of a name is a byte of names
name_is_names : (c : ℕ) → is_name_byte c ≡ true → is_of Names c ≡ true
name_is_names c e = grind (arith, nat_tests)

-- the bytes of a name are among those of names
pub name_in_names : (w : List ℕ) → list_all is_name_byte w ≡ true → list_all (is_of Names) w ≡ true
name_in_names [] e = refl
name_in_names (c ∷ w) e =
    let both = and_parts (is_name_byte c) (list_all is_name_byte w) e in
    and_from (is_of Names c) (list_all (is_of Names) w) (name_is_names c both.0) (name_in_names w both.1)

-- ---- their elements

-- a byte of a name is no comma
name_no_comma : (c : ℕ) → is_name_byte c ≡ true → (c == comma) ≡ false
name_no_comma c e = grind (arith, nat_tests)

-- a name is its one element
pub one_element : (w : List ℕ) → list_all is_name_byte w ≡ true → elements w ≡ w ∷ []
one_element [] e = refl
one_element (c ∷ w) e =
    let both = and_parts (is_name_byte c) (list_all is_name_byte w) e in
    slice_split-cons_no (λ b. b == comma) c w (name_no_comma c both.0) ∙ ap (onto_first c) (one_element w both.1)

-- a name before a comma is the first element
pub first_element : (w v : List ℕ) → list_all is_name_byte w ≡ true → elements (w ++ 44 ∷ v) ≡ w ∷ elements v
first_element [] v e = refl
first_element (c ∷ w) v e =
    let both = and_parts (is_name_byte c) (list_all is_name_byte w) e in
    slice_split-cons_no (λ b. b == comma) c (w ++ 44 ∷ v) (name_no_comma c both.0) ∙ ap (onto_first c) (first_element w v both.1)

-- ---- whether a name is a tag

-- the fault of a taglist of one name
name_fault_is : (w : List ℕ) → 0 < length w → list_all is_name_byte w ≡ true → first_fault w ≡ cond (matches_any w) None (Some (Unknown 0))
name_fault_is [] some e = absurd (omega arith)
name_fault_is (c ∷ w) some e =
    ap (first_fault_from 0) (one_element (c ∷ w) e)
    ∙ cond_both (matches_any (c ∷ w)) None (Some (Unknown 0)) (λ (o : Option TagFault). option_or o None ≡ o) (λ b. refl) (λ b. refl)

-- a taglist of one name is accepted where the name is that of a tag or matches one
pub tag_is : (w : List ℕ) (r : Result TagSet TagFault) → 0 < length w → list_all is_name_byte w ≡ true → OnOk r (first_fault w ≡ None) → IfErr r (λ f. first_fault w ≡ Some f) → is_ok r ≡ matches_any w
tag_is w (Ok set) some e accepted refused =
    let found : cond (matches_any w) None (Some (Unknown 0)) ≡ None = sym (name_fault_is w some e) ∙ accepted in
    cond_both (matches_any w) None (Some (Unknown 0)) (λ (o : Option TagFault). o ≡ None → true ≡ matches_any w) (λ b same. sym b) (λ b same. absurd cc) found
tag_is w (Err f) some e accepted refused =
    let found : cond (matches_any w) None (Some (Unknown 0)) ≡ Some f = sym (name_fault_is w some e) ∙ refused in
    cond_both (matches_any w) None (Some (Unknown 0)) (λ (o : Option TagFault). o ≡ Some f → false ≡ matches_any w) (λ b same. absurd cc) (λ b same. sym b) found
