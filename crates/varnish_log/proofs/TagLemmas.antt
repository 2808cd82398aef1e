-- The table of Varnish's numbers has this project's number of each name, or zero where it has none.
use Rattle.std.proofs.Common.{◌≡◌, ℕ, ◌+◌, ◌≤◌, List, [], ◌∷◌, length, get_or, map, Option, None, Some, inl, inr, refl, sym, ap, ◌∙◌, arith}
use Rattle.std.specs.Prelude.{IfNone, IfSome, OnSome}
use Rattle.std.specs.List.{range_with_len}
use Rattle.std.proofs.Math.ListN.{get_or-map}
use Rattle.std.proofs.lemmas.Bool.{cases_lt, le-leb}
use Rattle.std.proofs.lemmas.List.{get_or-map as get_or-map_within, get_or_past}
use Rattle.std.proofs.lemmas.List.FromFn.{get_or-range_with_len, length-range_with_len}
use Rattle.vsl_tags.specs.Tags.{IsTag}
use Rattle.vsl_tags.specs.Called.{tag_called}
use Rattle.vsl_tags.proofs.CalledLemmas.{IsTagName-from}
use Rattle.varnish_log.specs.declared.form.BinaryForm.{BinaryForm}
use Rattle.varnish_log.specs.declared.form.BinaryForm.TheVariants.{Narrow, Wide}
use Rattle.varnish_log.specs.Tags.{names_of, tag_at}
use Rattle.varnish_log.specs.inside.Places.{past_one, place_of}

-- the number of a tag, or zero for none
abbrev or_zero : Option ℕ → ℕ
or_zero None = 0
or_zero (Some n) = n

-- this project's number of a name
abbrev own_of : List ℕ → ℕ
own_of name = or_zero (tag_called name)

-- this project's numbers of the names of all of Varnish's tags
abbrev pub own_numbers : List ℕ
own_numbers = 0 ∷ 1 ∷ 2 ∷ 3 ∷ 4 ∷ 5 ∷ 7 ∷ 0 ∷ 8 ∷ 10 ∷ 11 ∷ 12 ∷ 0 ∷ 13 ∷ 14 ∷ 53 ∷ 54 ∷ 57 ∷ 55 ∷ 56 ∷ 58 ∷ 59 ∷ 60 ∷ 61 ∷ 62 ∷ 65 ∷ 63 ∷ 64 ∷ 66 ∷ 67 ∷ 68 ∷ 69 ∷ 70 ∷ 73 ∷ 71 ∷ 72 ∷ 74 ∷ 75 ∷ 76 ∷ 77 ∷ 78 ∷ 81 ∷ 79 ∷ 80 ∷ 82 ∷ 83 ∷ 84 ∷ 85 ∷ 86 ∷ 89 ∷ 87 ∷ 88 ∷ 90 ∷ 91 ∷ 92 ∷ 16 ∷ 17 ∷ 18 ∷ 15 ∷ 19 ∷ 20 ∷ 21 ∷ 22 ∷ 26 ∷ 31 ∷ 33 ∷ 34 ∷ 35 ∷ 36 ∷ 37 ∷ 38 ∷ 9 ∷ 24 ∷ 25 ∷ 39 ∷ 43 ∷ 42 ∷ 44 ∷ 45 ∷ 40 ∷ 41 ∷ 27 ∷ 29 ∷ 28 ∷ 30 ∷ 46 ∷ 0 ∷ 49 ∷ 50 ∷ 51 ∷ 52 ∷ 32 ∷ 47 ∷ 6 ∷ 23 ∷ 48 ∷ 0 ∷ []

-- the place of a number in the table, by the places that the form lacks
abbrev own_by : BinaryForm → ℕ → ℕ
own_by form number = get_or own_numbers (place_of form number) 0

-- the numbers of a form's names stand at the places of these
numbers_are : (form : BinaryForm) → map own_of (names_of form) ≡ map (own_by form) (range_with_len 0 (length (names_of form)))
numbers_are Narrow = refl
numbers_are Wide = refl

-- behind the last number of a form is no place
behind_all : (form : BinaryForm) (number : ℕ) → length (names_of form) ≤ number → 97 ≤ place_of form number
behind_all Narrow number behind = omega (arith, behind)
behind_all Wide number behind = past_all number (omega (arith, behind))
  where
    past : (place lacked : ℕ) → lacked ≤ place → past_one place lacked ≡ place + 1
    past place lacked le = rw (le-leb lacked place le) refl

    past_all : (number : ℕ) → 94 ≤ number → 97 ≤ past_one (past_one (past_one number 7) 12) 86
    past_all number many =
        let first = past number 7 (omega (arith, many)) in
        let second = past (past_one number 7) 12 (omega (arith, first, many)) in
        omega (arith, first, second, past (past_one (past_one number 7) 12) 86 (omega (arith, first, second, many)), many)

-- the number in the table is that of the name
own_at : (form : BinaryForm) (number : ℕ) → own_of (get_or (names_of form) number []) ≡ own_by form number
own_at form number = elim (cases_lt number (length (names_of form))) [
  | inl low ↦
      sym (get_or-map own_of (names_of form) number []) ∙ ap (λ (xs : List ℕ). get_or xs number 0) (numbers_are form)
      ∙ get_or-map_within (own_by form) (range_with_len 0 (length (names_of form))) number 0 0 (omega (arith, low, length-range_with_len 0 (length (names_of form))))
      ∙ ap (own_by form) (get_or-range_with_len 0 (length (names_of form)) number 0 low ∙ omega arith)
  | inr high ↦ ap own_of (get_or_past (names_of form) number [] high) ∙ sym (get_or_past own_numbers (place_of form number) 0 (behind_all form number high))
]

-- what a name finds is a tag
found_tag : (name : List ℕ) (o : Option ℕ) → tag_called name ≡ o → IfSome o (λ n. IsTag n)
found_tag name None e = tt
found_tag name (Some n) e = (IsTagName-from n name e).0

same_answer : (o : Option ℕ) (result : Option ℕ) (own : ℕ) → or_zero o ≡ own → IfSome o (λ n. IsTag n) → IfSome result (λ tag. tag ≡ own) → OnSome result (IsTag own) → IfNone result (¬ (IsTag own)) → result ≡ o
same_answer None None own e is number accepted refused = refl
same_answer None (Some t) own e is number accepted refused = absurd (omega (arith, e, accepted))
same_answer (Some n) None own e is number accepted refused = absurd (refused (omega (arith, e, is.0), omega (arith, e, is.1)))
same_answer (Some n) (Some t) own e is number accepted refused = ap Some (number ∙ sym e)

-- so what has this number, if it is a tag's, is the tag of the name
pub answered : (form : BinaryForm) (number own : ℕ) (result : Option ℕ) → own ≡ get_or own_numbers (place_of form number) 0 → IfSome result (λ tag. tag ≡ own) → OnSome result (IsTag own) → IfNone result (¬ (IsTag own)) → result ≡ tag_at form number
unfolding tag_at
answered form number own result there is accepted refused =
    same_answer (tag_at form number) result own (own_at form number ∙ sym there) (found_tag (get_or (names_of form) number []) (tag_at form number) refl) is accepted refused

-- a place behind the table is of no name
pub none_behind : (form : BinaryForm) (number : ℕ) → 97 ≤ place_of form number → None ≡ tag_at form number
none_behind form number behind = answered form number 0 None (sym (get_or_past own_numbers (place_of form number) 0 behind)) tt tt (λ is. omega (arith, is.0))
