-- Keys that are lent, the keys of a part of a group, and what equal keys are.
use Rattle.std.proofs.Common.{◌≡◌, ◌≢◌, Bool, true, false, List, ◌∷◌, ap, sym, true≢false, eqb-true, ◌∙◌}
use Rattle.std.specs.Cmp.{IsEquivalence, IsPartialEquivalence, partial_equiv_from_equiv, on_equiv, and_equiv, nat_eq_equiv, first_so, second_so}
use Rattle.std.specs.Cmp.Lexicographic.{nat_list_eq_equiv, bytes_decides}
use Rattle.std.specs.Hash as fed
use Rattle.std.specs.Str.{bytes_eq}
use Rattle.std.specs.Prelude.{◌==◌, map}
use Rattle.std.specs.List.{filter, flat_map}
use Rattle.vsl_record.specs.declared.record_type.Record.{Record}
use Rattle.txn_rows.specs.declared.group.Member.{Member}
use Rattle.vsl_select.specs.Showing.{Showing}
use Rattle.vsl_select.specs.Shown.{is_shown_alone, is_shown_record, shown_members}
use Rattle.vsl_top.specs.Report.{Key, is_same, key_of}
use Rattle.vsl_top.specs.declared.key.KeyParts.{KeyParts}

-- the key of a tag with a text that is lent
abbrev pub key_in : KeyParts → Key
key_in parts = record { tag = parts.tag; text = parts.text.now }

-- the keys of the shown records among those of a shown transaction
abbrev pub shown_keys : Showing → Bool → List Record → List Key
shown_keys showing first_field records = map (key_of first_field) (filter (is_shown_record showing) records)

-- the keys of those of some records that are shown by themselves
abbrev pub alone_keys : Showing → Bool → List Record → List Key
alone_keys showing first_field records = map (key_of first_field) (filter (is_shown_alone showing) records)

-- the keys of the shown records of the shown transactions
abbrev pub member_keys : Showing → Bool → List Member → List Key
member_keys showing first_field members =
    map (key_of first_field) (flat_map (λ m. m.records) (shown_members showing members))

-- equality of keys is an equivalence
pub same_equiv : IsEquivalence is_same
same_equiv = and_equiv (on_equiv (λ (k : Key). k.tag) nat_eq_equiv) (on_equiv (λ (k : Key). k.text) nat_list_eq_equiv)

-- and so it is a partial one, which two types can share
pub same_per : IsPartialEquivalence is_same
same_per = partial_equiv_from_equiv same_equiv

-- equal keys are the same
pub same_key : (a b : Key) → is_same a b ≡ true → a ≡ b
same_key a b e =
    let tags : a.tag ≡ b.tag = eqb-true _ _ (first_so (a.tag == b.tag) (bytes_eq a.text b.text) e) in
    let texts : a.text ≡ b.text = (bytes_decides a.text b.text).0 (second_so (a.tag == b.tag) (bytes_eq a.text b.text) e) in
    λ i. record { tag = tags i; text = texts i }

-- other keys are not
pub other_key : (a b : Key) → is_same a b ≡ false → a ≢ b
other_key a b e same = true≢false (sym (same_equiv.refl a) ∙ ap (is_same a) same ∙ e)

-- equal keys are hashed alike
pub same_fed : (a b : Key) → is_same a b ≡ true → a.text ∷ fed.u8 a.tag ≡ b.text ∷ fed.u8 b.tag
same_fed a b e = ap (λ (k : Key). k.text ∷ fed.u8 k.tag) (same_key a b e)
