-- The steps of gathering records.
use Rattle.std.proofs.Common.{◌≡◌, ℕ, ◌+◌, ◌≤◌, true, false, length, Option, None, Some, Result, Ok, Err, refl, sym, subst, arith}
use Rattle.std.specs.Prelude.{IfSome, OnOk, OnErr}
use Rattle.std.proofs.lemmas.Bool.{leb-true}
use Rattle.vsl_record.specs.declared.mark.Mark.{Mark}
use Rattle.vsl_record.specs.declared.mark.Mark.TheVariants.{Client, Backend, Plain}
use Rattle.vsl_record.specs.declared.record_type.Record.{Record}
use Rattle.vsl_record.specs.Unit.{LogUnit}
use Rattle.vsl_record.specs.Words.{IsUnit, unit_words}
use Rattle.vsl_select.specs.FileUnits.{is_same_mark}
use Rattle.raw_records.specs.Lines.{LoggedRecord}
use Rattle.raw_records.specs.Gathered.{with_record}
use Rattle.traffic_feed.specs.Batches.{IsWithin, has_room}
use Rattle.traffic_feed.specs.inside.Gathering.{Gathered, begins, begun_goes_on, begun_has_room, taken_by}

-- a record with which the batch doesn't go on
pub taken_apart : (o : Option LogUnit) (g : Gathered) (l : LoggedRecord) → begun_goes_on o l ≡ false → begins g l ≡ taken_by o g l
taken_apart None g l apart = refl
taken_apart (Some u) g l apart = rw apart refl

cut_by : (o : Option LogUnit) (g : Gathered) (l : LoggedRecord) → begun_goes_on o l ≡ true → begun_has_room g.seg o l ≡ false → begins (record g { cuts = g.cuts + 1 }) l ≡ taken_by o g l
cut_by None g l on full = absurd cc
cut_by (Some u) g l on full = rw (on, full) refl

-- a record before which the batch is cut
pub taken_cut : (g was : Gathered) (l : LoggedRecord) → g ≡ was → begun_goes_on was.begun l ≡ true → begun_has_room was.seg was.begun l ≡ false → begins (record g { cuts = g.cuts + 1 }) l ≡ taken_by was.begun was l
taken_cut g was l same on full = subst (λ (g : Gathered). begins (record g { cuts = g.cuts + 1 }) l ≡ taken_by was.begun was l) (sym same) (cut_by was.begun was l on full)

-- a record that is added to its unit
pub taken_on : (o : Option LogUnit) (g new : Gathered) (l : LoggedRecord) → begun_goes_on o l ≡ true → begun_has_room g.seg o l ≡ true → IfSome o (λ u. new ≡ record g { begun = Some (with_record u l.rec) }) → new ≡ taken_by o g l
taken_on None g new l on room is = absurd cc
taken_on (Some u) g new l on room is = rw (on, room) is

-- a test of marks
pub same_mark_is : (a b : Mark) → is_same_mark a b ≡ true → b ≡ a
same_mark_is Client Client same = refl
same_mark_is Client Backend same = absurd cc
same_mark_is Client Plain same = absurd cc
same_mark_is Backend Client same = absurd cc
same_mark_is Backend Backend same = refl
same_mark_is Backend Plain same = absurd cc
same_mark_is Plain Client same = absurd cc
same_mark_is Plain Backend same = absurd cc
same_mark_is Plain Plain same = refl

-- a batch goes on with its mark
pub marks_on : (o : Option LogUnit) (l : LoggedRecord) → begun_goes_on o l ≡ true → IfSome o (λ u. l.rec.mark ≡ u.mark)
marks_on None l on = tt
marks_on (Some u) l on = let same : is_same_mark u.mark l.rec.mark ≡ true = grind arith in same_mark_is u.mark l.rec.mark same

-- a unit with a record for which it has room, or the unit alone where there was no memory
pub IsWithin-pushed : {T E : Type 0} (r : Result T E) (seg : ℕ) (old new : LogUnit) (rec : Record) → IsWithin seg old → has_room seg old (record { vxid = 0; rec = rec }) ≡ true
    → OnOk r (new ≡ with_record old rec) → OnOk r (IsUnit new) → OnErr r (new ≡ old) → IsWithin seg new
IsWithin-pushed (Ok x) seg old new rec is room pushed unit err = record { unit = unit; fits = subst (λ (u : LogUnit). length (unit_words u) ≤ seg) (sym pushed) (leb-true (length (unit_words (with_record old rec))) seg room) }
IsWithin-pushed (Err x) seg old new rec is room pushed unit err = rw err is
