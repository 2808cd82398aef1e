-- Records by themselves: what of them is shown, and their raw lines.
use Rattle.std.proofs.Common.{◌≡◌, ℕ, ◌&&◌, List, [], ◌∷◌, ◌++◌, Bool, true, false, cond, map, refl, ap, ◌∙◌}
use Rattle.std.proofs.lemmas.List.{append-nil}
use Rattle.std.specs.List.{filter, flat_map}
use Rattle.vsl_record.specs.declared.record_type.Record.{Record}
use Rattle.txn_rows.specs.declared.group.Group.{Group}
use Rattle.txn_rows.specs.declared.group.Kind.TheVariants as kinds
use Rattle.txn_rows.specs.declared.group.Member.{Member}
use Rattle.txn_rows.specs.declared.group.Reason.TheVariants as reasons
use Rattle.txn_rows.specs.Grouping.{raw_group}
use Rattle.vsl_select.specs.RawLine.{raw_line}
use Rattle.vsl_select.specs.Lines.{group_text, member_raw_lines}
use Rattle.vsl_select.specs.Showing.{Showing}
use Rattle.vsl_select.specs.Shown.{is_shown_alone, is_shown_mark, is_shown_record, shown, shown_member}

-- the text of records by themselves is their raw lines
pub raw_groups_text : (verbose : Bool) (vxid : ℕ) (records : List Record) → flat_map (group_text verbose) (map (raw_group vxid) records) ≡ flat_map (raw_line vxid) records
raw_groups_text verbose vxid [] = refl
raw_groups_text verbose vxid (rec ∷ records) =
    let one : group_text verbose (raw_group vxid rec) ≡ raw_line vxid rec = append-nil ((raw_line vxid rec) ++ []) ∙ append-nil (raw_line vxid rec) in
    ap (λ (x : List ℕ). x ++ flat_map (group_text verbose) (map (raw_group vxid) records)) one ∙ ap (λ (x : List ℕ). raw_line vxid rec ++ x) (raw_groups_text verbose vxid records)

-- ---- what of them is shown

-- the member of a record by itself
abbrev raw_member : ℕ → Record → Member
raw_member vxid rec = record { vxid = vxid; kind = kinds.Record; reason = reasons.Other; level = 0; parent = 0; records = rec ∷ [] }

module _ {X : Type 0} (f : Member → List X) (showing : Showing) (vxid : ℕ) (of_record : Record → List X)
    (none : (m : Member) → f (record m { records = [] }) ≡ []) (some : (rec : Record) → flat_map f (raw_group vxid rec).members ≡ of_record rec) where
  -- what is made of what is shown of a record by itself is that of the record, where it is shown
  of_one : (rec : Record) → flat_map f (shown showing (raw_group vxid rec)).members ≡ cond (is_shown_alone showing rec) (of_record rec) []
  of_one rec = of_tests (is_shown_record showing) (is_shown_mark showing.sides rec.mark) (is_shown_record showing rec) refl
    where
      of_tests : (p : Record → Bool) (a b : Bool) → p rec ≡ b
          → flat_map f (map (λ (m : Member). record m { records = filter p m.records }) (cond a (raw_group vxid rec).members [])) ≡ cond (a && b) (of_record rec) []
      of_tests p true true is = rw is (some rec)
      of_tests p true false is = rw is (append-nil (f (record (raw_member vxid rec) { records = [] })) ∙ none (raw_member vxid rec))
      of_tests p false b is = refl

  -- and of records by themselves that of those that are shown
  pub of_shown : (records : List Record) → flat_map (λ g. flat_map f (shown showing g).members) (map (raw_group vxid) records) ≡ flat_map of_record (filter (is_shown_alone showing) records)
  of_shown [] = refl
  of_shown (rec ∷ records) =
      ap (λ (x : List X). x ++ flat_map (λ g. flat_map f (shown showing g).members) (map (raw_group vxid) records)) (of_one rec)
      ∙ ap (λ (x : List X). cond (is_shown_alone showing rec) (of_record rec) [] ++ x) (of_shown records)
      ∙ with_one (is_shown_alone showing rec)
    where
      with_one : (b : Bool) → cond b (of_record rec) [] ++ flat_map of_record (filter (is_shown_alone showing) records)
          ≡ flat_map of_record (cond b (rec ∷ filter (is_shown_alone showing) records) (filter (is_shown_alone showing) records))
      with_one true = refl
      with_one false = refl

-- the text of what is shown of records by themselves is the raw lines of those that are shown
pub shown_raw_text : (verbose : Bool) (showing : Showing) (vxid : ℕ) (records : List Record)
    → flat_map (group_text verbose) (map (shown showing) (map (raw_group vxid) records)) ≡ flat_map (raw_line vxid) (filter (is_shown_alone showing) records)
shown_raw_text verbose showing vxid records =
    as_lines records ∙ of_shown member_raw_lines showing vxid (raw_line vxid) (λ m. refl) (λ rec. append-nil (raw_line vxid rec ++ []) ∙ append-nil (raw_line vxid rec)) records
  where
    of_test : (rec : Record) (a : Bool)
        → group_text verbose (record { members = map (shown_member showing) (cond a (raw_group vxid rec).members []) }) ≡ flat_map member_raw_lines (map (shown_member showing) (cond a (raw_group vxid rec).members []))
    of_test rec true = refl
    of_test rec false = refl

    as_lines : (records : List Record)
        → flat_map (group_text verbose) (map (shown showing) (map (raw_group vxid) records)) ≡ flat_map (λ g. flat_map member_raw_lines (shown showing g).members) (map (raw_group vxid) records)
    as_lines [] = refl
    as_lines (rec ∷ records) =
        ap (λ (x : List ℕ). x ++ flat_map (group_text verbose) (map (shown showing) (map (raw_group vxid) records))) (of_test rec (is_shown_mark showing.sides rec.mark))
        ∙ ap (λ (x : List ℕ). flat_map member_raw_lines (shown showing (raw_group vxid rec)).members ++ x) (as_lines records)
