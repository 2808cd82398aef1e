-- The units of records have these records in order, and each is as long as it can be.
use Rattle.std.proofs.Common.{◌≡◌, ℕ, Bool, false, List, [], ◌∷◌, ◌++◌, map, length, Some, inl, inr, refl, ap, ◌∙◌, arith}
use Rattle.std.specs.Prelude.{IfSome, slice_get}
use Rattle.std.specs.List.{flat_map}
use Rattle.std.proofs.lemmas.Bool.{cases_Bool}
use Rattle.std.proofs.lemmas.List.{append_assoc, length-append}
use Rattle.std.proofs.lemmas.List.Concat.{flat_map-append}
use Rattle.vsl_record.specs.declared.mark.Mark.{Mark}
use Rattle.vsl_record.specs.declared.record_type.Record.{Record}
use Rattle.vsl_record.specs.Unit.{LogUnit, Log}
use Rattle.raw_records.specs.Lines.{LoggedRecord, Line}
use Rattle.raw_records.specs.Gathered.{unit_of, with_record, logged, gathered_from, gathered, goes_on}
use Rattle.traffic_feed.specs.Batches.{most_kept, sections, batches, has_room, units_of_batch, listing_units}
use Rattle.traffic_feed.proofs.BatchLemmas.{GoesOn-from, logged_more}

-- ---- in order

batches_from : (ls : List LoggedRecord) (begun : LogUnit) → flat_map logged (gathered_from goes_on begun ls) ≡ logged begun ++ ls
batches_from [] begun = refl
batches_from (l ∷ ls) begun = elim (cases_Bool (goes_on begun l)) [
  | inl on ↦ rw on (batches_from ls (with_record begun l.rec) ∙ ap (λ xs. xs ++ ls) (logged_more begun l (GoesOn-from begun l on).vxid) ∙ append_assoc (logged begun) (l ∷ []) ls)
  | inr off ↦ rw off (ap (λ xs. logged begun ++ xs) (batches_from ls (unit_of l)))
]

batches_in_order : (ls : List LoggedRecord) → flat_map logged (gathered goes_on ls) ≡ ls
batches_in_order [] = refl
batches_in_order (l ∷ ls) = batches_from ls (unit_of l)

all_in_order : (ss : List (List LoggedRecord)) → flat_map logged (flat_map (gathered goes_on) ss) ≡ flat_map (λ s. s) ss
all_in_order [] = refl
all_in_order (s ∷ ss) = rw (flat_map-append, batches_in_order s, all_in_order ss) refl

module _ (seg : ℕ) where
  -- records of one VXID
  abbrev of_vxid : ℕ → List Record → List LoggedRecord
  of_vxid vxid records = map (λ rec. record { vxid = vxid; rec = rec }) records

  units_from : (records : List Record) (begun : LogUnit) → flat_map logged (gathered_from (has_room seg) begun (of_vxid begun.vxid records)) ≡ logged begun ++ of_vxid begun.vxid records
  units_from [] begun = refl
  units_from (rec ∷ records) begun =
      let l : LoggedRecord = record { vxid = begun.vxid; rec = rec } in
      elim (cases_Bool (has_room seg begun l)) [
        | inl room ↦ rw room (units_from records (with_record begun rec) ∙ ap (λ xs. xs ++ of_vxid begun.vxid records) (logged_more begun l refl) ∙ append_assoc (logged begun) (l ∷ []) (of_vxid begun.vxid records))
        | inr full ↦ rw full (ap (λ xs. logged begun ++ xs) (units_from records (unit_of l)))
      ]

  units_in_order : (vxid : ℕ) (records : List Record) → flat_map logged (gathered (has_room seg) (of_vxid vxid records)) ≡ of_vxid vxid records
  units_in_order vxid [] = refl
  units_in_order vxid (rec ∷ records) = units_from records (unit_of (record { vxid = vxid; rec = rec }))

  cut_in_order : (us : Log) → flat_map logged (flat_map (units_of_batch seg) us) ≡ flat_map logged us
  cut_in_order [] = refl
  cut_in_order (u ∷ us) = rw (flat_map-append, units_in_order u.vxid u.records, cut_in_order us) refl

-- each record of a listing is in one unit, in order
pub listing_in_order : (reclen seg : ℕ) (ls : List Line) → flat_map logged (listing_units reclen seg ls) ≡ flat_map (λ s. s) (sections (most_kept reclen seg) ls)
listing_in_order reclen seg ls = cut_in_order seg (batches (most_kept reclen seg) ls) ∙ all_in_order (sections (most_kept reclen seg) ls)

-- ---- as long as it can be

module _ (goes : LogUnit → LoggedRecord → Bool) where
  -- the first unit begins as the one that was begun
  first_begins : (ls : List LoggedRecord) (vxid : ℕ) (mark : Mark) (rec : Record) (more : List Record) (v : LogUnit) (behind : Log) → gathered_from goes (record { vxid = vxid; mark = mark; records = rec ∷ more }) ls ≡ v ∷ behind
      → slice_get (logged v) 0 ≡ Some (record { vxid = vxid; rec = rec })
  first_begins [] vxid mark rec more v behind is = let same : v ≡ record { vxid = vxid; mark = mark; records = rec ∷ more } = cc in rw same refl
  first_begins (l ∷ ls) vxid mark rec more v behind is =
      let begun : LogUnit = record { vxid = vxid; mark = mark; records = rec ∷ more } in
      elim (cases_Bool (goes begun l)) [
        | inl on ↦ first_begins ls vxid mark rec (more ++ l.rec ∷ []) v behind (rw on at is)
        | inr off ↦ let cut : begun ∷ gathered_from goes (unit_of l) ls ≡ v ∷ behind = rw off at is in let same : v ≡ begun = cc in rw same refl
      ]

  -- where a unit ends after one that was begun, when the others are known
  ends_after : (l : LoggedRecord) (ls : List LoggedRecord) (begun : LogUnit) (before behind : Log) (u v : LogUnit)
      → ((before : Log) → gathered_from goes (unit_of l) ls ≡ before ++ u ∷ v ∷ behind → IfSome (slice_get (logged v) 0) (λ l. goes u l ≡ false))
      → goes begun l ≡ false → begun ∷ gathered_from goes (unit_of l) ls ≡ before ++ u ∷ v ∷ behind → IfSome (slice_get (logged v) 0) (λ l. goes u l ≡ false)
  ends_after l ls begun [] behind u v others off is =
      let more : gathered_from goes (unit_of l) ls ≡ v ∷ behind = cc in
      let same : begun ≡ u = cc in
      rw (first_begins ls l.vxid l.rec.mark l.rec [] v behind more, ← same) off
  ends_after l ls begun (b ∷ before) behind u v others off is = let more : gathered_from goes (unit_of l) ls ≡ before ++ u ∷ v ∷ behind = cc in others before more

  ends_where : (ls : List LoggedRecord) (begun : LogUnit) (before behind : Log) (u v : LogUnit) → gathered_from goes begun ls ≡ before ++ u ∷ v ∷ behind → IfSome (slice_get (logged v) 0) (λ l. goes u l ≡ false)
  ends_where [] begun before behind u v is = absurd (omega (arith, ap length is, length-append before (u ∷ v ∷ behind)))
  ends_where (l ∷ ls) begun before behind u v is = elim (cases_Bool (goes begun l)) [
    | inl on ↦ ends_where ls (with_record begun l.rec) before behind u v (rw on at is)
    | inr off ↦ ends_after l ls begun before behind u v (λ before more. ends_where ls (unit_of l) before behind u v more) off (rw off at is)
  ]

-- a unit ends before the first record that doesn't go into it
pub gathered_ends : (goes : LogUnit → LoggedRecord → Bool) (ls : List LoggedRecord) (before behind : Log) (u v : LogUnit) → gathered goes ls ≡ before ++ u ∷ v ∷ behind → IfSome (slice_get (logged v) 0) (λ l. goes u l ≡ false)
gathered_ends goes [] before behind u v is = absurd (omega (arith, ap length is, length-append before (u ∷ v ∷ behind)))
gathered_ends goes (l ∷ ls) before behind u v is = ends_where goes ls (unit_of l) before behind u v is
