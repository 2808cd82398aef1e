-- Elements of a taglist: names, and texts with a star at their beginning or end (varnishlog(1), -i; vsl-query(7), "taglist"; where
-- a star may stand is this project's choice). No tag's name has a star, so an element with a star elsewhere matches none.
use Rattle.std.specs.Prelude.{◌≡◌, ℕ, ◌++◌, ◌-◌, ◌==◌, Bool, false, true, ◌||◌, if◌then◌else◌, List, [], ◌∷◌, length, take, drop, slice_index}
use Rattle.std.specs.Char.{eq_ignore_ascii_case}
use Rattle.std.specs.Cmp.Lexicographic.{pointwise}
use Rattle.std.specs.List.{starts_with, ends_with}
use Rattle.std.specs.Str.{str_to_ascii_lowercase}

-- the byte that stands for any bytes, `*`
abbrev pub star : ℕ
star = 42

-- a text begins with a star
abbrev pub has_first_star : List ℕ → Bool
has_first_star text = slice_index text 0 == star

-- a text without the star that it begins with
abbrev pub without_first_star : List ℕ → List ℕ
without_first_star text = if has_first_star text then drop 1 text else text

-- a text ends with a star
abbrev pub has_last_star : List ℕ → Bool
has_last_star text = slice_index text (length text - 1) == star

-- a text without the star that it ends with
abbrev pub without_last_star : List ℕ → List ℕ
without_last_star text = if has_last_star text then take (length text - 1) text else text

-- two texts are alike, without regard to case
abbrev pub is_same : List ℕ → List ℕ → Bool
is_same = pointwise eq_ignore_ascii_case

-- a name begins with a text, without regard to case
abbrev pub has_prefix : List ℕ → List ℕ → Bool
has_prefix = starts_with eq_ignore_ascii_case

-- a name ends with a text, without regard to case
abbrev pub has_suffix : List ℕ → List ℕ → Bool
has_suffix = ends_with eq_ignore_ascii_case

-- a name has a text at one of its places, without regard to case
abbrev pub has_part : List ℕ → List ℕ → Bool
has_part [] text = has_prefix [] text
has_part (b ∷ bs) text = has_prefix (b ∷ bs) text || has_part bs text

-- a name is a text, with any bytes before it where the first is true, and any after it where the second is
abbrev pub fits : Bool → Bool → List ℕ → List ℕ → Bool
fits true true text name = has_part name text
fits true false text name = has_suffix name text
fits false true text name = has_prefix name text
fits false false text name = is_same text name

-- a name is, in lower case, some bytes, a text and some bytes; none before it where the first is false, none after it where the second is
pub record IsFit (any_before any_after : Bool) (text name : List ℕ) : Type 0 where
  pub before : List ℕ
  pub after : List ℕ
  pub bytes : str_to_ascii_lowercase name ≡ before ++ (str_to_ascii_lowercase text ++ after)
  pub first : any_before ≡ false → before ≡ []
  pub last : any_after ≡ false → after ≡ []

-- an element is a name, or matches it: a star at its beginning stands for any bytes, and so does one at its end
unfoldable pub matches : List ℕ → List ℕ → Bool
matches element name =
    let rest = without_first_star element in
    fits (has_first_star element) (has_last_star rest) (without_last_star rest) name
