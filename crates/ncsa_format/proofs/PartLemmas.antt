-- Parts of records: a tag, a prefix and a field.
use Rattle.std.proofs.Common.{◌≡◌, ◌==◌, ◌∙◌, ℕ, List, ◌++◌, length, take, drop, Option, refl, ap, append_assoc}
use Rattle.std.specs.List.{position_or_len}
use Rattle.std.proofs.lemmas.List.{take_at}
use Rattle.vsl_tags.specs.Called.{tag_called}
use Rattle.vsl_decimal.specs.Prefix.{colon}
use Rattle.ncsa_format.specs.Formatter.{bracket}
use Rattle.ncsa_format.specs.Reading.{field_asked, part_asked, prefix_asked, tag_part}
use Rattle.ncsa_format.specs.declared.formatter.Formatter.{Formatter}
use Rattle.ncsa_format.specs.inside.Cut.{IsCut}
use Rattle.ncsa_format.proofs.CutLemmas.{behind_is, front_is, place_is}

-- what is asked for, for any tags of names
abbrev part_with : (List ℕ → Option ℕ) → List ℕ → Option Formatter
part_with tag_of text =
    let at = position_or_len (λ b. b == bracket) text in
    let behind = position_or_len (λ b. b == colon) (take at text) in
    tag_part (tag_of (take behind text)) (prefix_asked (drop behind (take at text))) (field_asked (drop at text))

part_by : (tag_of : List ℕ → Option ℕ) (text named field name prefix : List ℕ) → IsCut (λ b. b == bracket) text named field → IsCut (λ b. b == colon) named name prefix
    → tag_part (tag_of name) (prefix_asked prefix) (field_asked field) ≡ part_with tag_of text
part_by tag_of text named field name prefix outer inner =
    let front = front_is (λ b. b == bracket) text named field outer in
    let behind = behind_is (λ b. b == bracket) text named field outer in
    let place = place_is (λ b. b == colon) named name prefix inner in
    let first : take (length name) text ≡ name = ap (take (length name)) (outer.parts ∙ ap (λ (x : List ℕ). x ++ field) inner.parts ∙ append_assoc name prefix field) ∙ take_at name (prefix ++ field) (length name) refl in
    let second = behind_is (λ b. b == colon) named name prefix inner in
    cc

-- the part of a record with these parts of a text
pub part_is : (text named field name prefix : List ℕ) → IsCut (λ b. b == bracket) text named field → IsCut (λ b. b == colon) named name prefix
    → tag_part (tag_called name) (prefix_asked prefix) (field_asked field) ≡ part_asked text
part_is text named field name prefix outer inner = part_by tag_called text named field name prefix outer inner
