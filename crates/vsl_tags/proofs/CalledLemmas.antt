-- A name finds its tag, and what finds a tag is its name.
use Rattle.std.proofs.Common.{◌≡◌, ◌≢◌, ℕ, ◌+◌, ◌-◌, ◌<◌, ◌≤◌, Bool, true, false, ◌==◌, ◌&&◌, ◌||◌, leb, ltb, List, [], length, get_or, map, Option, Some, None, refl, sym, ap, ◌∙◌, arith, rules, tests}
use Rattle.std.specs.Prelude.{if◌then◌else◌, IfNone, IfSome}
use Rattle.std.specs.Char.{to_ascii_lowercase}
use Rattle.std.specs.List.{AllPass, list_all, list_any, position_or_len}
use Rattle.std.specs.Str.{IsAscii, bytes_eq, str_to_ascii_lowercase}
use Rattle.std.proofs.Math.ListN as whole
use Rattle.std.proofs.lemmas.Bool.{and_parts, leb-true}
use Rattle.std.proofs.lemmas.Bool.Decides.{nat_tests}
use Rattle.std.proofs.lemmas.List.{length-map}
use Rattle.std.proofs.lemmas.List.Folds.{list_all-map, list_any_none}
use Rattle.std.proofs.lemmas.List.Sums.{AllPass-from_list_all, passes_at_first}
use Rattle.std.proofs.lemmas.Slice.Eq.{bytes_eq-Decides}
use Rattle.std.proofs.lemmas.Str.Ascii.{IsAscii-from_all}
use Rattle.vsl_tags.specs.Called.{IsTagName, tag_called}
use Rattle.vsl_tags.specs.Tags.{IsTag, last_tag, lower_names, number_of_lower, tag_name, tag_names}
use Rattle.vsl_tags.proofs.NameLemmas.{name_finds_tag}

-- the tag with this number, where there is one
abbrev numbered : ℕ → Option ℕ
numbered n = if leb n last_tag then Some n else None

within : (n : ℕ) → n ≤ last_tag → numbered n ≡ Some n
within n few = search (tests, rules)

-- a name finds its tag
pub tag_found : (tag : ℕ) (name : List ℕ) → IsTagName tag name → tag_called name ≡ Some tag
tag_found tag name is = ap numbered (ap number_of_lower is.1 ∙ name_finds_tag tag is.0) ∙ within tag is.0.1

-- a text that is the first of some names, in lower case, is that name
name_found : (names : List (List ℕ)) (text : List ℕ) (n : ℕ) → 1 + position_or_len (λ lower. bytes_eq lower text) (map str_to_ascii_lowercase names) ≡ n → n ≤ length names
    → (1 ≤ n) × (text ≡ str_to_ascii_lowercase (get_or names (n - 1) []))
name_found names text n number few =
    let is = λ (lower : List ℕ). bytes_eq lower text in
    let lowers : List (List ℕ) = map str_to_ascii_lowercase names in
    let place : n - 1 ≡ position_or_len is lowers = omega arith in
    let count : length lowers ≡ length names = length-map names str_to_ascii_lowercase in
    let found : position_or_len is lowers < length lowers = omega arith in
    (omega arith, sym (ap (λ k. str_to_ascii_lowercase (get_or names k [])) place ∙ sym (whole.get_or-map str_to_ascii_lowercase names (position_or_len is lowers) []) ∙ (bytes_eq-Decides _ _).0 (passes_at_first is lowers [] found)))

-- what finds a tag is its name
pub IsTagName-from : (tag : ℕ) (name : List ℕ) → tag_called name ≡ Some tag → IsTagName tag name
IsTagName-from tag name e =
    let number = number_of_lower (str_to_ascii_lowercase name) in
    let parts : (number ≤ last_tag) × (number ≡ tag) = grind (arith, leb-true number last_tag) in
    let found = name_found tag_names (str_to_ascii_lowercase name) tag parts.1 (omega arith) in
    ((found.0, omega arith), found.1)

-- the tag that was found, or that there is none
pub tag_is : (name : List ℕ) (o : Option ℕ) → IfSome o (λ tag. str_to_ascii_lowercase (tag_name tag) ≡ str_to_ascii_lowercase name) → IfSome o (λ tag. IsTag tag)
    → IfNone o ((tag : ℕ) → IsTag tag → str_to_ascii_lowercase (tag_name tag) ≢ str_to_ascii_lowercase name) → o ≡ tag_called name
tag_is name (Some tag) named is refused = sym (tag_found tag name (is, sym named))
tag_is name None named is refused =
    elim (tag_called name) as (λ o. tag_called name ≡ o → None ≡ o) [
      | None ↦ λ _. refl
      | Some tag ↦ λ e. let is = IsTagName-from tag name e in absurd (refused tag is.0 (sym is.1))
    ] refl

-- whether a byte may be of a name in lower case: no space, colon, bracket, and none past `z`
abbrev is_plain : ℕ → Bool
is_plain b = (leb 33 b && ltb b 58) || (leb 95 b && ltb b 123)

-- whether a name in lower case has 3 bytes or more, and all may be of one
abbrev is_lower_name : List ℕ → Bool
is_lower_name name = leb 3 (length name) && list_all is_plain name

names_plain : list_all is_lower_name lower_names ≡ true
names_plain = refl

-- the bytes of a name are ASCII, and no spaces, colons and brackets, and there are three or more
pub record IsPlain (name : List ℕ) : Type 0 where
  pub ascii : IsAscii name
  pub no_space : AllPass (λ b. leb 33 b) name
  pub no_colon : list_any (λ b. b == 58) name ≡ false
  pub no_bracket : list_any (λ b. b == 91) name ≡ false
  pub some : 3 ≤ length name

plain_byte : (b : ℕ) → is_plain (to_ascii_lowercase b) ≡ true → (b < 128) × (leb 33 b ≡ true) × ((b == 58) ≡ false) × ((b == 91) ≡ false)
plain_byte b e = (grind (arith, nat_tests), grind (arith, nat_tests), grind (arith, nat_tests), grind (arith, nat_tests))

pub IsPlain-from : (tag : ℕ) (name : List ℕ) → IsTagName tag name → IsPlain name
IsPlain-from tag name is =
    let place : tag - 1 < length lower_names = omega arith in
    let lower : is_lower_name (str_to_ascii_lowercase (tag_name tag)) ≡ true = rw (whole.get_or-map str_to_ascii_lowercase tag_names (tag - 1) []) at (AllPass-from_list_all is_lower_name lower_names names_plain (tag - 1) [] place) in
    let parts : (leb 3 (length (str_to_ascii_lowercase name)) ≡ true) × (list_all is_plain (str_to_ascii_lowercase name) ≡ true) = and_parts _ _ (ap is_lower_name is.1 ∙ lower) in
    let all : AllPass (λ b. is_plain (to_ascii_lowercase b)) name = AllPass-from_list_all (λ b. is_plain (to_ascii_lowercase b)) name (sym (list_all-map is_plain to_ascii_lowercase name) ∙ parts.1) in
    record {
      ascii = IsAscii-from_all name (λ k d at. (plain_byte _ (all k d at)).0);
      no_space = λ k d at. (plain_byte _ (all k d at)).1;
      no_colon = list_any_none _ name (λ k d at. (plain_byte _ (all k d at)).2);
      no_bracket = list_any_none _ name (λ k d at. (plain_byte _ (all k d at)).3);
      some = omega (arith, leb-true _ _ parts.0, length-map name to_ascii_lowercase);
    }
