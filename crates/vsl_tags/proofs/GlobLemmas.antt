-- Where a glob's text stands in a name: the tests, which take steps, mean that the name is the text between other bytes.
use Rattle.std.proofs.Common.{◌≡◌, ℕ, ◌-◌, Bool, true, false, eqb, ◌&&◌, inl, inr, List, [], ◌∷◌, ◌++◌, length, take, drop, map, refl, ap, sym, ◌∙◌}
use Rattle.std.proofs.lemmas.Bool.{or_cases, or_left, or_right}
use Rattle.std.proofs.lemmas.Bool.Decides.{Decides-eqb}
use Rattle.std.proofs.lemmas.List.{append-nil, length-map, take-map, drop-map}
use Rattle.std.proofs.lemmas.Slice.Eq.{bytes_eq-Decides, starts_is, ends_is}
use Rattle.std.specs.Char.{eq_ignore_ascii_case, to_ascii_lowercase}
use Rattle.std.specs.List.{starts_with, ends_with}
use Rattle.std.specs.Str.{str_eq_ignore_ascii_case}
use Rattle.vsl_tags.specs.Glob.{IsFit, fits, has_part, has_prefix, has_suffix, is_same}

-- two texts are alike byte by byte where they are alike in lower case
pub is_same_lower : (a b : List ℕ) → is_same a b ≡ str_eq_ignore_ascii_case a b
is_same_lower [] [] = refl
is_same_lower [] (y ∷ ys) = refl
is_same_lower (x ∷ xs) [] = refl
is_same_lower (x ∷ xs) (y ∷ ys) = ap (λ rest. eq_ignore_ascii_case x y && rest) (is_same_lower xs ys)

-- a name begins with a text where it does in lower case
prefix_lower : (name text : List ℕ) → has_prefix name text ≡ starts_with eqb (map to_ascii_lowercase name) (map to_ascii_lowercase text)
prefix_lower name text = rw (length-map, take-map) (is_same_lower text (take (length text) name))

-- a name ends with a text where it does in lower case
suffix_lower : (name text : List ℕ) → has_suffix name text ≡ ends_with eqb (map to_ascii_lowercase name) (map to_ascii_lowercase text)
suffix_lower name text = simp (length-map, drop-map) (is_same_lower text (drop (length name - length text) name))

-- a name that begins with a text is it and other bytes
begins : (name text : List ℕ) → has_prefix name text ≡ true → IsFit false true text name
begins name text h =
    let cut = starts_is Decides-eqb (map to_ascii_lowercase name) (map to_ascii_lowercase text) (has_prefix name text) (prefix_lower name text) in
    record { before = []; after = drop (length (map to_ascii_lowercase text)) (map to_ascii_lowercase name); bytes = cut.0 h; first = λ e. refl; last = λ e. cc }

-- a text and other bytes begin with the text
begins_from : (name text after : List ℕ) → map to_ascii_lowercase name ≡ map to_ascii_lowercase text ++ after → has_prefix name text ≡ true
begins_from name text after e =
    (starts_is Decides-eqb (map to_ascii_lowercase name) (map to_ascii_lowercase text) (has_prefix name text) (prefix_lower name text)).1 after e

-- a name that ends with a text is other bytes and it
ends : (name text : List ℕ) → has_suffix name text ≡ true → IsFit true false text name
ends name text h =
    let lower = map to_ascii_lowercase name in
    let part = map to_ascii_lowercase text in
    let cut = ends_is Decides-eqb lower part (has_suffix name text) (suffix_lower name text) in
    record { before = take (length lower - length part) lower; after = []; bytes = rw append-nil (cut.0 h); first = λ e. cc; last = λ e. refl }

-- other bytes and a text end with the text
ends_from : (name text before : List ℕ) → map to_ascii_lowercase name ≡ before ++ map to_ascii_lowercase text → has_suffix name text ≡ true
ends_from name text before e =
    (ends_is Decides-eqb (map to_ascii_lowercase name) (map to_ascii_lowercase text) (has_suffix name text) (suffix_lower name text)).1 before e

-- a name that has a text at one of its places is it between other bytes
has : (name text : List ℕ) → has_part name text ≡ true → IsFit true true text name
has [] text h =
    let fit = begins [] text h in
    record { before = fit.before; after = fit.after; bytes = fit.bytes; first = λ e. cc; last = λ e. cc }
has (b ∷ bs) text h =
    elim (or_cases _ _ h) [
      | inl here ↦
          let fit = begins (b ∷ bs) text here in
          record { before = fit.before; after = fit.after; bytes = fit.bytes; first = λ e. cc; last = λ e. cc }
      | inr later ↦
          let fit = has bs text later in
          record {
            before = to_ascii_lowercase b ∷ fit.before;
            after = fit.after;
            bytes = ap (λ rest. to_ascii_lowercase b ∷ rest) fit.bytes;
            first = λ e. cc;
            last = λ e. cc;
          }
    ]

-- a text between other bytes is at one of the places
has_from : (name text before after : List ℕ) → map to_ascii_lowercase name ≡ before ++ (map to_ascii_lowercase text ++ after)
    → has_part name text ≡ true
has_from [] text [] after e = begins_from [] text after e
has_from [] text (x ∷ before) after e = cc
has_from (b ∷ bs) text [] after e = or_left _ _ (begins_from (b ∷ bs) text after e)
has_from (b ∷ bs) text (x ∷ before) after e =
    let tail : map to_ascii_lowercase bs ≡ before ++ (map to_ascii_lowercase text ++ after) = cc in or_right _ _ (has_from bs text before after tail)

-- the tests of a glob mean that its text is the name, between other bytes where it may
pub fits_means : (any_before any_after : Bool) (text name : List ℕ) → fits any_before any_after text name ≡ true → IsFit any_before any_after text name
fits_means true true text name h = has name text h
fits_means true false text name h = ends name text h
fits_means false true text name h = begins name text h
fits_means false false text name h =
    let same = (bytes_eq-Decides _ _).0 (sym (is_same_lower text name) ∙ h) in
    record { before = []; after = []; bytes = rw append-nil (sym same); first = λ e. refl; last = λ e. refl }

-- a name that is the text, between other bytes where it may be, passes the tests
pub means_fits : (any_before any_after : Bool) (text name : List ℕ) → IsFit any_before any_after text name → fits any_before any_after text name ≡ true
means_fits true true text name fit = has_from name text fit.before fit.after fit.bytes
means_fits true false text name fit = ends_from name text fit.before (rw (fit.last refl, append-nil) at fit.bytes)
means_fits false true text name fit = begins_from name text fit.after (rw (fit.first refl) at fit.bytes)
means_fits false false text name fit =
    let same : map to_ascii_lowercase name ≡ map to_ascii_lowercase text = rw (fit.first refl, fit.last refl, append-nil) at fit.bytes in
    is_same_lower text name ∙ (bytes_eq-Decides _ _).1 (sym same)
