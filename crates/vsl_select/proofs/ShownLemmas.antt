-- What nothing hides.
use Rattle.std.proofs.Common.{◌≡◌, ◌==◌, Bool, true, false, List, [], ◌∷◌, length, map, get_or, refl, ap, ◌∙◌, arith}
use Rattle.std.specs.List.{filter}
use Rattle.std.proofs.lemmas.Bool.{and_from, eqb-true, or_left, not_from_false}
use Rattle.std.proofs.lemmas.List.Folds.{map_fixed}
use Rattle.vsl_record.specs.declared.record_type.Record.{Record}
use Rattle.txn_rows.specs.declared.group.Member.{Member}
use Rattle.txn_rows.specs.declared.group.Group.{Group}
use Rattle.vsl_select.specs.declared.rule_text.RuleText.{RuleText}
use Rattle.vsl_select.specs.declared.rule_text.Sides.{Sides}
use Rattle.vsl_select.specs.Showing.{Showing}
use Rattle.vsl_select.specs.Shown.{has_sides, is_shown_alone, is_shown_member, is_shown_record, shown, shown_member}

-- a test that is true everywhere keeps a list
keeps_all : {X : Type 0} (p : X → Bool) → ((x : X) → p x ≡ true) → (xs : List X) → filter p xs ≡ xs
keeps_all p all [] = refl
keeps_all p all (x ∷ xs) = rw (all x) (ap (λ (rest : List _). x ∷ rest) (keeps_all p all xs))

-- without rules a record is shown
record_shown : (sides : Sides) (rules : List RuleText) (caseless : Bool) → (length rules == 0) ≡ true → (rec : Record)
    → is_shown_record (record { sides = sides; rules = rules; caseless = caseless }) rec ≡ true
record_shown sides [] caseless none rec = refl
record_shown sides (rule ∷ rules) caseless none rec = absurd (omega (arith, eqb-true (length (rule ∷ rules)) 0 none))

-- without rules each record of a transaction is shown
pub records_kept : (showing : Showing) → (length showing.rules == 0) ≡ true → (records : List Record) → filter (is_shown_record showing) records ≡ records
records_kept showing none records = keeps_all (is_shown_record showing) (record_shown showing.sides showing.rules showing.caseless none) records

-- without sides and rules each record by itself is shown
pub alone_kept : (showing : Showing) → has_sides showing.sides ≡ false → (length showing.rules == 0) ≡ true → (records : List Record) → filter (is_shown_alone showing) records ≡ records
alone_kept showing no_sides none records =
    keeps_all (is_shown_alone showing)
    (λ rec. and_from _ _ (or_left _ _ (not_from_false (has_sides showing.sides) no_sides)) (record_shown showing.sides showing.rules showing.caseless none rec)) records

-- without sides and rules the whole group is shown
pub group_kept : (showing : Showing) → has_sides showing.sides ≡ false → (length showing.rules == 0) ≡ true → (group : Group) → shown showing group ≡ group
group_kept showing no_sides none group =
    let kept = keeps_all (is_shown_member showing.sides) (λ m. or_left _ _ (not_from_false (has_sides showing.sides) no_sides)) group.members in
    let each = map_fixed (shown_member showing) group.members (λ k d lt. member_kept (get_or group.members k d)) in
    ap (λ (members : List Member). record { members = members }) (ap (map (shown_member showing)) kept ∙ each)
  where
    member_kept : (m : Member) → shown_member showing m ≡ m
    member_kept m = ap (λ (records : List Record). record m { records = records }) (records_kept showing none m.records)
