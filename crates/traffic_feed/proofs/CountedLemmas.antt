-- By how much units raise the counters.
use Rattle.std.proofs.Common.{◌≡◌, ◌≢◌, ℕ, ◌+◌, ◌*◌, ◌<◌, ◌≤◌, Bool, true, false, List, [], ◌∷◌, length, Option, None, Some, refl, sym, subst, arith}
use Rattle.std.specs.List.{flat_map, sum_by}
use Rattle.std.specs.Prelude.{IfSome, slice_get, slice_index, slice_set, unwrap_or}
use Rattle.std.proofs.lemmas.Bool.Decides.{eqb_tells}
use Rattle.std.proofs.lemmas.List.{get_or-set_other, get_or-set_same, length-append}
use Rattle.std.proofs.lemmas.List.Sums.{sum_by-cons}
use Rattle.std.proofs.lemmas.Option.{IfSome_then}
use Rattle.vsl_decimal.specs.Whole.{whole_number}
use Rattle.vsl_decimal.proofs.WholeLemmas.{whole_number-writes}
use Rattle.vsl_record.specs.declared.record_type.Record.{Record}
use Rattle.vsl_record.specs.Unit.{LogUnit}
use Rattle.vsl_record.specs.Words.{IsUnit, record_words}
use mathlib.Core.Logic.{dite, inl, inr}
use native.Mathlib.Decide.{dec_lt}
use Rattle.counter_segments.specs.Sums.{counter_count}
use Rattle.traffic_feed.specs.Counted.{Cause, EachTag, EachRequest, EachFetch, EachCall, EachField, EachRecord, EachUnit, EachCut, EachWait, EachWrap, causes, one_if, field_value, raise, unit_raise, share_at, unit_share}
use Rattle.traffic_feed.specs.inside.Raises.{raise_at, unit_raise_at}

-- ---- a record raises a counter by less than 2^32

one_if_small : (b : Bool) → one_if b ≤ 4294967295
one_if_small true = omega arith
one_if_small false = omega arith

or_small : (o : Option ℕ) → IfSome o (λ n. n ≤ 4294967295) → unwrap_or o 0 ≤ 4294967295
or_small None small = omega arith
or_small (Some n) small = small

field_value_small : (o : Option (List ℕ)) → field_value o ≤ 4294967295
field_value_small None = omega arith
field_value_small (Some text) =
    let value = or_small (whole_number 0 4294967295 text) (IfSome_then (whole_number 0 4294967295 text) (whole_number-writes 0 4294967295 text) (λ n is. is.4)) in
    grind arith

raise_small : (cause : Cause) (rec : Record) → raise cause rec ≤ 4294967295
raise_small (EachTag tag) rec = one_if_small _
raise_small EachRequest rec = one_if_small _
raise_small EachFetch rec = one_if_small _
raise_small (EachCall name) rec = one_if_small _
raise_small (EachField n) rec = grind (arith, field_value_small)
raise_small EachRecord rec = omega arith
raise_small EachUnit rec = omega arith
raise_small EachCut rec = omega arith
raise_small EachWait rec = omega arith
raise_small EachWrap rec = omega arith

sum_small : (cause : Cause) (recs : List Record) → sum_by (raise cause) recs ≤ 4294967295 * length recs
sum_small cause [] = omega arith
sum_small cause (rec ∷ recs) = omega (arith, sum_by-cons (raise cause) rec recs, raise_small cause rec, sum_small cause recs)

-- what no record raises, records don't raise together
no_records : (o : Option Cause) → ((rec : Record) → raise_at o rec ≡ 0) → (recs : List Record) → sum_by (raise_at o) recs ≡ 0
no_records o none [] = refl
no_records o none (rec ∷ recs) = omega (arith, sum_by-cons (raise_at o) rec recs, none rec, no_records o none recs)

-- records raise a counter by less than 2^32 each
pub sum_at_small : (o : Option Cause) (recs : List Record) → sum_by (raise_at o) recs ≤ 4294967295 * length recs
sum_at_small None recs = omega (arith, no_records None (λ rec. refl) recs)
sum_at_small (Some cause) recs = sum_small cause recs

unit_raise_small : (cause : Cause) → unit_raise cause ≤ 1
unit_raise_small EachUnit = omega arith
unit_raise_small (EachTag tag) = omega arith
unit_raise_small EachRequest = omega arith
unit_raise_small EachFetch = omega arith
unit_raise_small (EachCall name) = omega arith
unit_raise_small (EachField n) = omega arith
unit_raise_small EachRecord = omega arith
unit_raise_small EachCut = omega arith
unit_raise_small EachWait = omega arith
unit_raise_small EachWrap = omega arith

share_small : (o : Option Cause) (u : LogUnit) → IsUnit u → share_at o u ≤ 4294967296 * length u.records
share_small None u is = omega arith
share_small (Some cause) u is = omega (arith, unit_raise_small cause, sum_small cause u.records, is.some)

-- a unit raises a counter by less than 2^32 for each of its records
pub unit_share_bound : (which : ℕ) (u : LogUnit) → IsUnit u → unit_share which u ≤ 4294967296 * length u.records
unit_share_bound which u is = share_small (slice_get causes which) u is

-- ---- a unit has fewer than 2^20 records

two_words : (vxid : ℕ) (recs : List Record) → 2 * length recs ≤ length (flat_map (record_words vxid) recs)
two_words vxid [] = omega arith
two_words vxid (rec ∷ recs) = omega (arith, two_words vxid recs, length-append (record_words vxid rec) (flat_map (record_words vxid) recs))

pub records_few : (u : LogUnit) → IsUnit u → length u.records < 1048576
records_few u is = omega (arith, two_words u.vxid u.records, is.size)

-- ---- what raises which counter

-- a unit raises a counter by itself and by its records
pub share_parts : (o : Option Cause) (u : LogUnit) → share_at o u ≡ unit_raise_at o + sum_by (raise_at o) u.records
share_parts None u = omega (arith, no_records None (λ rec. refl) u.records)
share_parts (Some cause) u = refl

-- a unit raises one counter by itself, which is number 17
pub unit_raise_other : (which : ℕ) → which ≢ 17 → which < counter_count → unit_raise_at (slice_get causes which) ≡ 0
unit_raise_other which other below = grind arith

-- what records raise each counter by, and one more of units, is what the unit raises each by
pub shares_are : (u : LogUnit) (sums : List ℕ) → length sums ≡ counter_count → ((which : ℕ) → which < counter_count → slice_index sums which ≡ sum_by (raise_at (slice_get causes which)) u.records)
    → (which : ℕ) → which < counter_count → slice_index (slice_set sums 17 (slice_index sums 17 + 1)) which ≡ unit_share which u
shares_are u sums long by_all which below =
    let new : List ℕ = slice_set sums 17 (slice_index sums 17 + 1) in
    let units : slice_index new 17 ≡ unit_share 17 u = let all = by_all 17 (omega arith) in omega (arith, all, get_or-set_same sums 17 (slice_index sums 17 + 1) 0 (omega arith), share_parts (slice_get causes 17) u) in
    elim (eqb_tells which 17) [
      | inl same ↦ subst (λ (n : ℕ). slice_index new n ≡ unit_share n u) (sym same.1) units
      | inr other ↦ let all = by_all which below in omega (arith, all, get_or-set_other sums 17 which (slice_index sums 17 + 1) 0 other.1, share_parts (slice_get causes which) u, unit_raise_other which other.1 below)
    ]

-- where neither a unit nor its records raise it
no_share : (o : Option Cause) (u : LogUnit) → ((rec : Record) → raise_at o rec ≡ 0) → unit_raise_at o ≡ 0 → share_at o u ≡ 0
no_share o u none apart = omega (arith, apart, share_parts o u, no_records o none u.records)

-- the last three counters are raised by no unit
pub no_unit_share : (which : ℕ) (u : LogUnit) → 18 ≤ which → which < counter_count → unit_share which u ≡ 0
no_unit_share which u low high =
    dite (dec_lt which 19)
    (λ is. let e : which ≡ 18 = omega arith in rw e (no_share (Some EachCut) u (λ rec. refl) refl))
    (λ above. dite (dec_lt which 20)
    (λ is. let e : which ≡ 19 = omega arith in rw e (no_share (Some EachWait) u (λ rec. refl) refl))
    (λ highest. let e : which ≡ 20 = omega arith in rw e (no_share (Some EachWrap) u (λ rec. refl) refl)))
