-- The lengths of the names, and that no two are alike, also without regard to case: each finds its own number.
use Rattle.std.proofs.Common.{◌≡◌, ℕ, ◌+◌, ◌-◌, ◌<◌, ◌≤◌, Bool, true, leb, ◌&&◌, List, [], length, get_or, map, refl, ap, sym, ◌∙◌, arith}
use Rattle.std.proofs.Math.ListN as whole
use Rattle.std.proofs.lemmas.List.{get_or-map, length-append, length-replicate}
use Rattle.std.proofs.lemmas.List.FromFn.{get_or-range_with_len}
use Rattle.std.proofs.lemmas.List.Sums.{AllPass-from_list_all}
use Rattle.std.proofs.lemmas.Bool.{and_parts, leb-true}
use Rattle.std.specs.List.{list_all, range_with_len}
use Rattle.std.specs.Str.{str_to_ascii_lowercase}
use Rattle.std.specs.Str.{trim_end, chars}
use Rattle.vsl_tags.specs.Tags.{in_columns, name_columns, IsTag, first_tag, last_tag, tag_names, tag_name, longest_name, lower_names, number_of_lower}

-- the names in lower case find the numbers of the tags, in order
numbers_in_order : map number_of_lower lower_names ≡ range_with_len first_tag last_tag
numbers_in_order = refl

-- a tag's name in lower case finds the tag's number
pub name_finds_tag : (n : ℕ) → IsTag n → number_of_lower (str_to_ascii_lowercase (tag_name n)) ≡ n
name_finds_tag n tag =
    let within : n - 1 < length lower_names = omega arith in
    let place : n - 1 < last_tag = omega arith in
    let number : first_tag + (n - 1) ≡ n = omega arith in
    ap number_of_lower (sym (whole.get_or-map str_to_ascii_lowercase tag_names (n - 1) []))
    ∙ sym (get_or-map number_of_lower lower_names (n - 1) [] 0 within)
    ∙ ap (λ numbers. get_or numbers (n - 1) 0) numbers_in_order
    ∙ get_or-range_with_len first_tag last_tag (n - 1) 0 place
    ∙ number

-- two tags whose names differ in case at most are one tag
pub names_are_different
    : (m n : ℕ) → IsTag m → IsTag n → str_to_ascii_lowercase (tag_name m) ≡ str_to_ascii_lowercase (tag_name n) → m ≡ n
names_are_different m n at_m at_n same = sym (name_finds_tag m at_m) ∙ ap number_of_lower same ∙ name_finds_tag n at_n

-- whether a name has 1 to 14 bytes
abbrev has_good_length : List ℕ → Bool
has_good_length name = leb 1 (length name) && leb (length name) longest_name

-- each name of the table has 1 to 14 bytes
lengths_are_good : list_all has_good_length tag_names ≡ true
lengths_are_good = refl

-- a tag's name has 1 to 14 bytes
pub name_length : (n : ℕ) → IsTag n → (1 ≤ length (tag_name n)) × (length (tag_name n) ≤ longest_name)
name_length n tag =
    let within : n - 1 < length tag_names = omega arith in
    let good = AllPass-from_list_all has_good_length tag_names lengths_are_good (n - 1) [] within in
    let parts = and_parts _ _ good in
    (leb-true _ _ parts.0, leb-true _ _ parts.1)

-- a name is what its columns are without their spaces
names_in_columns : map (λ name. trim_end (in_columns name)) tag_names ≡ tag_names
unfolding trim_end chars lib.Utf8.encode
names_in_columns = refl

-- a tag's name is what its columns are without their spaces
pub name_in_columns : (n : ℕ) → trim_end (name_columns n) ≡ tag_name n
unfolding trim_end chars lib.Utf8.encode
name_in_columns n = sym (whole.get_or-map (λ name. trim_end (in_columns name)) tag_names (n - 1) []) ∙ ap (λ names. get_or names (n - 1) []) names_in_columns

-- the columns of a name of at most 14 bytes are 15
in_columns_length : (name : List ℕ) → length name ≤ longest_name → length (in_columns name) ≡ 15
in_columns_length name at_most = grind (arith, length-append, length-replicate)

-- a tag's columns are 15
pub columns_length : (n : ℕ) → IsTag n → length (name_columns n) ≡ 15
columns_length n tag = in_columns_length (tag_name n) (name_length n tag).1

-- a tag's columns, in the table of all
pub columns_at : (n : ℕ) → IsTag n → get_or (map in_columns tag_names) (n - 1) [] ≡ name_columns n
columns_at n tag = get_or-map in_columns tag_names (n - 1) [] [] (omega arith)
