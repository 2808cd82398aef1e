-- Gathering records one by one gives the units of the batches, and counts their cuts.
use Rattle.std.proofs.Common.{◌≡◌, ℕ, suc, ◌+◌, Bool, true, false, ◌==◌, ◌&&◌, ◌||◌, List, [], ◌∷◌, ◌++◌, length, Option, None, Some, inl, inr, refl, sym, ap, ◌∙◌, arith}
use Rattle.std.specs.Prelude.{if◌then◌else◌}
use Rattle.std.specs.List.{flat_map, fold, list_any, onto_first}
use Rattle.std.specs.Option.{option_to_list}
use Rattle.std.proofs.lemmas.Bool.{cases_Bool, eqb-true}
use Rattle.std.proofs.lemmas.List.{append-nil, append_assoc, length-append, map-append}
use Rattle.std.proofs.lemmas.List.Concat.{flat_map-append}
use Rattle.std.proofs.lemmas.List.Folds.{list_any-append}
use Rattle.vsl_tags.specs.Tags.{end_tag}
use Rattle.vsl_record.specs.declared.record_type.Record.{Record}
use Rattle.vsl_record.specs.Unit.{LogUnit, Log}
use Rattle.raw_records.specs.Lines.{LoggedRecord, Line, BlankLine, CommentLine, RecordLine}
use Rattle.raw_records.specs.Gathered.{unit_of, with_record, gathered_from, gathered, goes_on, logged, shortened}
use Rattle.traffic_feed.specs.Batches.{most_kept, sections, has_room, units_of_batch, listing_units, listing_cuts}
use Rattle.traffic_feed.specs.inside.Gathering.{Gathered, ended, taken_by, stepped, gathered_lines}
use Rattle.traffic_feed.proofs.GatheringLemmas.{same_mark_is}

-- whether a record is an End
abbrev pub is_end : Record → Bool
is_end rec = rec.tag == end_tag

-- a batch and its unit that was begun last agree on which records they go on with
record Agree (batch u : LogUnit) : Type 0 where
  vxid : batch.vxid ≡ u.vxid
  mark : batch.mark ≡ u.mark
  ends : list_any is_end batch.records ≡ list_any is_end u.records

Agree-self : (u : LogUnit) → Agree u u
Agree-self u = record { vxid = refl; mark = refl; ends = refl }

same_way : (batch u : LogUnit) (l : LoggedRecord) → Agree batch u → goes_on batch l ≡ goes_on u l
same_way batch u l agree = rw (agree.vxid, agree.mark, agree.ends) refl

-- what a batch that goes on with a record has
pub record GoesOn (batch : LogUnit) (l : LoggedRecord) : Type 0 where
  pub vxid : batch.vxid ≡ l.vxid
  pub some : (l.vxid == 0) ≡ false
  pub mark : l.rec.mark ≡ batch.mark
  pub no_end : list_any is_end batch.records ≡ false

pub GoesOn-from : (batch : LogUnit) (l : LoggedRecord) → goes_on batch l ≡ true → GoesOn batch l
GoesOn-from batch l on = record {
  vxid = eqb-true batch.vxid l.vxid (grind arith);
  some = grind arith;
  mark = same_mark_is batch.mark l.rec.mark (grind arith);
  no_end = grind arith;
}

Agree-both : (batch u : LogUnit) (rec : Record) → Agree batch u → Agree (with_record batch rec) (with_record u rec)
Agree-both batch u rec agree = record { vxid = agree.vxid; mark = agree.mark; ends = list_any-append is_end batch.records (rec ∷ []) ∙ ap (λ (b : Bool). b || list_any is_end (rec ∷ [])) agree.ends ∙ sym (list_any-append is_end u.records (rec ∷ [])) }

Agree-new : (batch : LogUnit) (l : LoggedRecord) → GoesOn batch l → Agree (with_record batch l.rec) (unit_of l)
Agree-new batch l on = record { vxid = on.vxid; mark = sym on.mark; ends = rw (list_any-append, on.no_end) refl }

-- the records of a unit with a record more
pub logged_more : (batch : LogUnit) (l : LoggedRecord) → batch.vxid ≡ l.vxid → logged (with_record batch l.rec) ≡ logged batch ++ l ∷ []
logged_more batch l same = map-append (λ (rec : Record). record { vxid = batch.vxid; rec = rec }) batch.records (l.rec ∷ []) ∙ ap (λ (vxid : ℕ). logged batch ++ (record { vxid = vxid; rec = l.rec }) ∷ []) same

module _ (seg : ℕ) where
  -- whether a unit goes on with a record and has room for it
  abbrev takes : LogUnit → LoggedRecord → Bool
  takes u l = goes_on u l && has_room seg u l

  -- the units of a batch are some, and those that are gathered behind the unit that was begun last
  abbrev EndsWith : LogUnit → Log → LogUnit → Type 0
  EndsWith batch before u = (ls : List LoggedRecord) → gathered (has_room seg) (logged batch ++ ls) ≡ before ++ gathered_from (has_room seg) u ls

  ended_with : (batch : LogUnit) (before : Log) (u : LogUnit) → EndsWith batch before u → units_of_batch seg batch ≡ before ++ u ∷ []
  ended_with batch before u ends = ap (gathered (has_room seg)) (sym (append-nil (logged batch))) ∙ ends []

  EndsWith-more : (batch u : LogUnit) (before : Log) (l : LoggedRecord) → batch.vxid ≡ l.vxid → EndsWith batch before u → has_room seg u l ≡ true → EndsWith (with_record batch l.rec) before (with_record u l.rec)
  EndsWith-more batch u before l same ends room ls =
      let taken : gathered_from (has_room seg) u (l ∷ ls) ≡ gathered_from (has_room seg) (with_record u l.rec) ls = rw room refl in
      ap (λ (xs : List LoggedRecord). gathered (has_room seg) (xs ++ ls)) (logged_more batch l same) ∙ ap (gathered (has_room seg)) (append_assoc (logged batch) (l ∷ []) ls) ∙ ends (l ∷ ls) ∙ ap (λ us. before ++ us) taken

  EndsWith-cut : (batch u : LogUnit) (before : Log) (l : LoggedRecord) → batch.vxid ≡ l.vxid → EndsWith batch before u → has_room seg u l ≡ false → EndsWith (with_record batch l.rec) (before ++ u ∷ []) (unit_of l)
  EndsWith-cut batch u before l same ends full ls =
      let cut : gathered_from (has_room seg) u (l ∷ ls) ≡ u ∷ gathered_from (has_room seg) (unit_of l) ls = rw full refl in
      ap (λ (xs : List LoggedRecord). gathered (has_room seg) (xs ++ ls)) (logged_more batch l same) ∙ ap (gathered (has_room seg)) (append_assoc (logged batch) (l ∷ []) ls) ∙ ends (l ∷ ls) ∙ ap (λ us. before ++ us) cut
      ∙ sym (append_assoc before (u ∷ []) (gathered_from (has_room seg) (unit_of l) ls))

  -- batches that are cut have the units that are gathered at once
  cut_at_once : (ls : List LoggedRecord) (batch u : LogUnit) (before : Log) → Agree batch u → EndsWith batch before u → flat_map (units_of_batch seg) (gathered_from goes_on batch ls) ≡ before ++ gathered_from takes u ls
  cut_at_once [] batch u before agree ends = append-nil (units_of_batch seg batch) ∙ ended_with batch before u ends
  cut_at_once (l ∷ ls) batch u before agree ends =
      let on_for_both = same_way batch u l agree in
      rw on_for_both (elim (goes_on u l) as (λ t. goes_on u l ≡ t → flat_map (units_of_batch seg) (if t then gathered_from goes_on (with_record batch l.rec) ls else batch ∷ gathered_from goes_on (unit_of l) ls) ≡ before
      ++ (if t && has_room seg u l then gathered_from takes (with_record u l.rec) ls else u ∷ gathered_from takes (unit_of l) ls)) [
        | true ↦ λ on.
            let has = GoesOn-from batch l (on_for_both ∙ on) in
            elim (has_room seg u l) as (λ r. has_room seg u l ≡ r → flat_map (units_of_batch seg) (gathered_from goes_on (with_record batch l.rec) ls) ≡ before ++ (if r then gathered_from takes (with_record u l.rec) ls else u ∷ gathered_from takes (unit_of l) ls)) [
              | true ↦ λ room. cut_at_once ls (with_record batch l.rec) (with_record u l.rec) before (Agree-both batch u l.rec agree) (EndsWith-more batch u before l has.vxid ends room)
              | false ↦ λ full. cut_at_once ls (with_record batch l.rec) (unit_of l) (before ++ u ∷ []) (Agree-new batch l has) (EndsWith-cut batch u before l has.vxid ends full) ∙ append_assoc before (u ∷ []) (gathered_from takes (unit_of l) ls)
            ] refl
        | false ↦ λ _. ap (λ us. us ++ flat_map (units_of_batch seg) (gathered_from goes_on (unit_of l) ls)) (ended_with batch before u ends) ∙ append_assoc before (u ∷ []) (flat_map (units_of_batch seg) (gathered_from goes_on (unit_of l) ls))
            ∙ ap (λ us. before ++ u ∷ us) (cut_at_once ls (unit_of l) (unit_of l) [] (Agree-self (unit_of l)) (λ ys. refl))
      ] refl)

  -- the units of the records between two blank lines
  section_units : (ls : List LoggedRecord) → flat_map (units_of_batch seg) (gathered goes_on ls) ≡ gathered takes ls
  section_units [] = refl
  section_units (l ∷ ls) = cut_at_once ls (unit_of l) (unit_of l) [] (Agree-self (unit_of l)) (λ ys. refl)

  -- how often batches are cut behind a unit that was begun
  cuts_from : LogUnit → List LoggedRecord → ℕ
  cuts_from u [] = 0
  cuts_from u (l ∷ ls) = if goes_on u l then (if has_room seg u l then cuts_from (with_record u l.rec) ls else suc (cuts_from (unit_of l) ls)) else cuts_from (unit_of l) ls

  cuts_counted : (ls : List LoggedRecord) (batch u : LogUnit) → Agree batch u → cuts_from u ls + length (gathered_from goes_on batch ls) ≡ length (gathered_from takes u ls)
  unfolding cuts_from
  cuts_counted [] batch u agree = refl
  cuts_counted (l ∷ ls) batch u agree =
      let on_for_both = same_way batch u l agree in
      rw on_for_both (elim (goes_on u l) as (λ t. goes_on u l ≡ t → (if t then (if has_room seg u l then cuts_from (with_record u l.rec) ls else suc (cuts_from (unit_of l) ls)) else cuts_from (unit_of l) ls)
      + length (if t then gathered_from goes_on (with_record batch l.rec) ls else batch ∷ gathered_from goes_on (unit_of l) ls) ≡ length (if t && has_room seg u l then gathered_from takes (with_record u l.rec) ls else u ∷ gathered_from takes (unit_of l) ls)) [
        | true ↦ λ on.
            let has = GoesOn-from batch l (on_for_both ∙ on) in
            elim (has_room seg u l) as (λ r. (if r then cuts_from (with_record u l.rec) ls else suc (cuts_from (unit_of l) ls)) + length (gathered_from goes_on (with_record batch l.rec) ls) ≡ length (if r then gathered_from takes (with_record u l.rec) ls else u ∷ gathered_from takes (unit_of l) ls)) [
              | true ↦ cuts_counted ls (with_record batch l.rec) (with_record u l.rec) (Agree-both batch u l.rec agree)
              | false ↦ omega (arith, cuts_counted ls (with_record batch l.rec) (unit_of l) (Agree-new batch l has))
            ]
        | false ↦ λ _. omega (arith, cuts_counted ls (unit_of l) (unit_of l) (Agree-self (unit_of l)))
      ] refl)

  -- the records before the first blank line, and the sections behind it
  first : List (List LoggedRecord) → List LoggedRecord
  first [] = []
  first (s ∷ ss) = s

  later : List (List LoggedRecord) → List (List LoggedRecord)
  later [] = []
  later (s ∷ ss) = ss

  -- the units of records behind a unit that was begun, or of records alone, and how often their batches are cut
  abbrev units_with : Option LogUnit → List LoggedRecord → Log
  units_with None ls = gathered takes ls
  units_with (Some u) ls = gathered_from takes u ls

  abbrev cuts_with : Option LogUnit → List LoggedRecord → ℕ
  cuts_with None [] = 0
  cuts_with None (l ∷ ls) = cuts_from (unit_of l) ls
  cuts_with (Some u) ls = cuts_from u ls

  abbrev all_units : Option LogUnit → List (List LoggedRecord) → Log
  all_units o ss = units_with o (first ss) ++ flat_map (gathered takes) (later ss)

  abbrev cuts_in : List (List LoggedRecord) → ℕ
  cuts_in [] = 0
  cuts_in (s ∷ ss) = cuts_with None s + cuts_in ss

  abbrev all_cuts : Option LogUnit → List (List LoggedRecord) → ℕ
  all_cuts o ss = cuts_with o (first ss) + cuts_in (later ss)

  units_onto : (o : Option LogUnit) (l : LoggedRecord) (ss : List (List LoggedRecord)) → all_units o (onto_first l ss) ≡ units_with o (l ∷ first ss) ++ flat_map (gathered takes) (later ss)
  unfolding first later
  units_onto o l [] = refl
  units_onto o l (s ∷ ss) = refl

  cuts_onto : (o : Option LogUnit) (l : LoggedRecord) (ss : List (List LoggedRecord)) → all_cuts o (onto_first l ss) ≡ cuts_with o (l ∷ first ss) + cuts_in (later ss)
  unfolding first later
  cuts_onto o l [] = refl
  cuts_onto o l (s ∷ ss) = refl

  units_alone : (ss : List (List LoggedRecord)) → flat_map (gathered takes) ss ≡ all_units None ss
  unfolding first later
  units_alone [] = refl
  units_alone (s ∷ ss) = refl

  cuts_alone : (ss : List (List LoggedRecord)) → cuts_in ss ≡ all_cuts None ss
  unfolding first later
  cuts_alone [] = refl
  cuts_alone (s ∷ ss) = refl

  none_with : (o : Option LogUnit) → (units_with o [] ≡ option_to_list o) × (cuts_with o [] ≡ 0)
  unfolding cuts_from
  none_with None = (refl, refl)
  none_with (Some u) = (refl, refl)

  module _ (most : ℕ) where
    -- what was gathered of this
    abbrev state : Log → ℕ → Option LogUnit → Gathered
    state us cuts o = record { most = most; seg = seg; units = us; cuts = cuts; begun = o }

    -- lines behind those that were gathered give these units
    folded_units : (ls : List Line) (us : Log) (cuts : ℕ) (o : Option LogUnit) → (ended (fold stepped (state us cuts o) ls)).units ≡ us ++ all_units o (sections most ls)
    unfolding first later
    folded_units [] us cuts None = refl
    folded_units [] us cuts (Some u) = refl
    folded_units (BlankLine ∷ ls) us cuts o =
        folded_units ls (us ++ option_to_list o) cuts None ∙ append_assoc us (option_to_list o) (all_units None (sections most ls))
        ∙ ap (λ vs. us ++ (vs ++ all_units None (sections most ls))) (sym (none_with o).0) ∙ ap (λ vs. us ++ (units_with o [] ++ vs)) (sym (units_alone (sections most ls)))
    folded_units (CommentLine ∷ ls) us cuts o = folded_units ls us cuts o
    folded_units (RecordLine l ∷ ls) us cuts None =
        folded_units ls (us ++ []) cuts (Some (unit_of (shortened most l))) ∙ ap (λ vs. vs ++ all_units (Some (unit_of (shortened most l))) (sections most ls)) (append-nil us) ∙ ap (λ vs. us ++ vs) (sym (units_onto None (shortened most l) (sections most ls)))
    folded_units (RecordLine l ∷ ls) us cuts (Some u) =
        let m = shortened most l in
        let ss = sections most ls in
        let is : (ended (fold stepped (taken_by (Some u) (state us cuts (Some u)) m) ls)).units ≡ us ++ (gathered_from takes u (m ∷ first ss) ++ flat_map (gathered takes) (later ss)) = elim (cases_Bool (goes_on u m)) [
          | inl on ↦ elim (cases_Bool (has_room seg u m)) [
            | inl room ↦ rw (on, room) (folded_units ls us cuts (Some (with_record u m.rec)))
            | inr full ↦ rw (on, full) (folded_units ls (us ++ u ∷ []) (cuts + 1) (Some (unit_of m)) ∙ append_assoc us (u ∷ []) (all_units (Some (unit_of m)) ss))
          ]
          | inr off ↦ rw off (folded_units ls (us ++ u ∷ []) cuts (Some (unit_of m)) ∙ append_assoc us (u ∷ []) (all_units (Some (unit_of m)) ss))
        ] in
        is ∙ ap (λ vs. us ++ vs) (sym (units_onto (Some u) m ss))

    -- and these cuts
    folded_cuts : (ls : List Line) (us : Log) (cuts : ℕ) (o : Option LogUnit) → (fold stepped (state us cuts o) ls).cuts ≡ cuts + all_cuts o (sections most ls)
    unfolding first later cuts_from
    folded_cuts [] us cuts None = omega arith
    folded_cuts [] us cuts (Some u) = omega (arith, (none_with (Some u)).1)
    folded_cuts (BlankLine ∷ ls) us cuts o = omega (arith, folded_cuts ls (us ++ option_to_list o) cuts None, (none_with o).1, cuts_alone (sections most ls))
    folded_cuts (CommentLine ∷ ls) us cuts o = folded_cuts ls us cuts o
    folded_cuts (RecordLine l ∷ ls) us cuts None = folded_cuts ls (us ++ []) cuts (Some (unit_of (shortened most l))) ∙ ap (λ n. cuts + n) (sym (cuts_onto None (shortened most l) (sections most ls)))
    folded_cuts (RecordLine l ∷ ls) us cuts (Some u) =
        let m = shortened most l in
        let ss = sections most ls in
        let is : (fold stepped (taken_by (Some u) (state us cuts (Some u)) m) ls).cuts ≡ cuts + (cuts_from u (m ∷ first ss) + cuts_in (later ss)) = elim (cases_Bool (goes_on u m)) [
          | inl on ↦ elim (cases_Bool (has_room seg u m)) [
            | inl room ↦ rw (on, room) (folded_cuts ls us cuts (Some (with_record u m.rec)))
            | inr full ↦ rw (on, full) (omega (arith, folded_cuts ls (us ++ u ∷ []) (cuts + 1) (Some (unit_of m))))
          ]
          | inr off ↦ rw off (folded_cuts ls (us ++ u ∷ []) cuts (Some (unit_of m)))
        ] in
        is ∙ ap (λ n. cuts + n) (sym (cuts_onto (Some u) m ss))

  -- the units and the cuts of all sections
  sections_units : (ss : List (List LoggedRecord)) → flat_map (gathered takes) ss ≡ flat_map (units_of_batch seg) (flat_map (gathered goes_on) ss)
  sections_units [] = refl
  sections_units (s ∷ ss) = rw (flat_map-append, section_units s, ← sections_units ss) refl

  section_cuts : (ls : List LoggedRecord) → cuts_with None ls + length (gathered goes_on ls) ≡ length (gathered takes ls)
  section_cuts [] = refl
  section_cuts (l ∷ ls) = cuts_counted ls (unit_of l) (unit_of l) (Agree-self (unit_of l))

  sections_cuts : (ss : List (List LoggedRecord)) → cuts_in ss + length (flat_map (gathered goes_on) ss) ≡ length (flat_map (gathered takes) ss)
  sections_cuts [] = refl
  sections_cuts (s ∷ ss) = omega (
    arith,
    section_cuts s,
    sections_cuts ss,
    length-append (gathered goes_on s) (flat_map (gathered goes_on) ss),
    length-append (gathered takes s) (flat_map (gathered takes) ss),
  )

-- what is gathered of lines is the units of their batches
pub gathered_units : (reclen seg : ℕ) (ls : List Line) → (ended (gathered_lines reclen seg ls)).units ≡ listing_units reclen seg ls
gathered_units reclen seg ls =
    let ss = sections (most_kept reclen seg) ls in
    folded_units seg (most_kept reclen seg) ls [] 0 None ∙ sym (units_alone seg ss) ∙ sections_units seg ss

-- and their cuts
pub gathered_cuts : (reclen seg : ℕ) (ls : List Line) → (gathered_lines reclen seg ls).cuts ≡ listing_cuts reclen seg ls
gathered_cuts reclen seg ls =
    let ss = sections (most_kept reclen seg) ls in
    omega (arith, folded_cuts seg (most_kept reclen seg) ls [] 0 None, cuts_alone seg ss, sections_cuts seg ss, ap length (sections_units seg ss))
