-- Names and texts without regard to case, and how a taglist is cut at its commas.
use Rattle.std.proofs.Common.{◌≡◌, ℕ, ◌<◌, Bool, false, eqb, ◌&&◌, ◌||◌, ltb, inl, inr, ◌+◌, ◌-◌, set, replicate, List, [], ◌∷◌, length, take, get_or, ap, Bor, Option, Some, None, IfSome, IfNone, arith}
use Rattle.std.proofs.lemmas.Bool.{ne_eqb, cases_order}
use Rattle.std.proofs.lemmas.List.{get_or_default, get_or-replicate, take_all}
use Rattle.std.proofs.lemmas.List.Folds.{list_any_more}
use Rattle.std.proofs.lemmas.Bool.Decides.{nat_tests}
use Rattle.std.proofs.lemmas.Grind.{common_steps}
use Rattle.std.proofs.lemmas.List.Splits.{slice_split_first, slice_split_none}
use Rattle.std.proofs.lemmas.Str.Pattern.{IsSplitOnceResult, NoCharPasses-char, split_once_first}
use Rattle.std.specs.List.{list_any}
use Rattle.vsl_tags.specs.Tags.{IsTag, last_tag, tag_name, tag_names}
use Rattle.vsl_tags.specs.TagSet.{comma, elements}

-- a taglist that is cut at its first comma has the element before it and the elements after it
pub cut_at_comma : (list : List ℕ) (r : Option (Bor (List ℕ) × Bor (List ℕ))) → IsSplitOnceResult comma list r
    → IfSome r (λ parts. elements list ≡ parts.0.now ∷ elements parts.1.now)
cut_at_comma list None h = tt
cut_at_comma list (Some parts) h =
    let cut = split_once_first comma list (Some parts) h (omega arith) in
    rw (cut.1, cut.2) (slice_split_first (λ b. eqb b comma) list 0 cut.0)

-- a taglist without a comma is its one element
pub no_comma : (list : List ℕ) (r : Option (Bor (List ℕ) × Bor (List ℕ))) → IsSplitOnceResult comma list r
    → IfNone r (elements list ≡ list ∷ [])
no_comma list (Some parts) h = tt
no_comma list None h =
    slice_split_none (λ b. eqb b comma) list (λ k d within. ne_eqb _ _ (rw (get_or_default list k d 0 within) (NoCharPasses-char comma list k h (omega arith) within)))

-- some of the names to a tag's have a property where some before it have, or its own has
pub more_names : (p : List ℕ → Bool) (n : ℕ) → IsTag n
    → list_any p (take (n + 1 - 1) tag_names) ≡ (list_any p (take (n - 1) tag_names) || p (tag_name n))
more_names p n tag =
    let place : n + 1 - 1 ≡ n - 1 + 1 = omega arith in
    rw place (list_any_more p tag_names (n - 1) [] (omega arith))

-- all names are those of the tags to the last
pub all_names : (p : List ℕ → Bool) (n : ℕ) → last_tag < n → list_any p (take (n - 1) tag_names) ≡ list_any p tag_names
all_names p n past = ap (list_any p) (take_all (n - 1) tag_names (omega arith))

-- no number is of a set of no tag
pub none_in_empty : (n : ℕ) → IsTag n → get_or (replicate (last_tag + 1) false) n false ≡ false
none_in_empty n tag = get_or-replicate (last_tag + 1) n false false (omega arith)

-- a set to which one number was added, if it fits, has what it had and the numbers up to that one that fit
pub one_more : (was : List Bool) (fits old : ℕ → Bool) (i : ℕ) → i < length was
    → ((n : ℕ) → IsTag n → get_or was n false ≡ (old n || (ltb n i && fits n))) → (n : ℕ) → IsTag n
    → get_or (set was i (get_or was i false || fits i)) n false ≡ (old n || (ltb n (i + 1) && fits n))
one_more was fits old i within before n tag =
    elim (cases_order n i) [
      | inl same ↦ grind (arith, common_steps, nat_tests, before n tag)
      | inr (inl below) ↦ grind (arith, common_steps, nat_tests, before n tag)
      | inr (inr above) ↦ grind (arith, common_steps, nat_tests, before n tag)
    ]
