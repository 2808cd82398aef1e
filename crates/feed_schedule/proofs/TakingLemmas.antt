-- Where a replay stands after the reader's turn, and what the reader met in it.
use Rattle.std.proofs.Common.{◌≡◌, ℕ, ◌+◌, ◌-◌, ◌/◌, ◌<◌, Bool, true, false, cond, eqb, List, [], ◌∷◌, ◌++◌, length, take, slice_get, sym, refl, ap, ◌∙◌, subst, arith, Option, Some, None}
use Rattle.std.proofs.lemmas.Bool.{le-leb, lt-leb, eqb-false}
use Rattle.std.proofs.lemmas.Option.{slice_get_past}
use Rattle.std.specs.Option.{unwrap_or}
use Rattle.vsl_record.specs.Unit.{LogUnit, Log}
use Rattle.vsl_record.specs.Words.{unit_words}
use Rattle.ring_layout.specs.Places.{tail, segment_start}
use Rattle.ring_layout.specs.History.{first_number}
use Rattle.ring_layout.specs.declared.item.Item.TheVariants as items
use Rattle.ring_plain.specs.Cursor.{CursorState, Stands, IsOverrun, TookUnit as CursorTook, StandsAtStart}
use Rattle.feed_schedule.specs.declared.replay.Advanced.{Advanced}
use Rattle.feed_schedule.specs.declared.replay.Advanced.TheVariants as answers
use Rattle.feed_schedule.specs.Schedule.{Reading, Waits, Ended, Stage, count_writers, after_taking, last_segment, is_overrun, after_overrun, after_reader, met}
use Rattle.feed_schedule.specs.Replaying.{ReplayState, IsAt}
use Rattle.feed_schedule.specs.inside.Turning.{IsSteady, Leads}
use Rattle.ring_layout.proofs.MetLemmas.{unit_met}
use Rattle.feed_schedule.proofs.ItemLemmas.{unit_keeps_run, overrun_items}

-- the place where the cursor stands lies in the segment of the stage's
at_segment : (r : ReplayState) (s : Stage) → IsAt r s → r.cursor.place / r.cursor.seg ≡ s.place / r.ring.seg
at_segment r s h = ap (λ (p : ℕ). p / r.cursor.seg) h.place ∙ ap (λ (g : ℕ). s.place / g) h.same

-- the ring's counter is the segment to which the writers have come
at_last : (r : ReplayState) (s : Stage) → IsAt r s → r.ring.counter ≡ last_segment r.ring.seg s
at_last r s h = h.wrote.in_ring.counter_is ∙ ap (λ (t : ℕ). t / r.ring.seg) h.wrote.in_ring.tail_is

-- the cursor is overrun where the reader is
at_far : (r : ReplayState) (s : Stage) → IsAt r s → IsOverrun r.ring r.cursor → is_overrun r.ring.seg s ≡ true
at_far r s h far = let a = at_segment r s h in let b = at_last r s h in le-leb (s.place / r.ring.seg + 6) (last_segment r.ring.seg s) (omega arith)

at_near : (r : ReplayState) (s : Stage) → IsAt r s → ¬ (IsOverrun r.ring r.cursor) → is_overrun r.ring.seg s ≡ false
at_near r s h near = let a = at_segment r s h in let b = at_last r s h in lt-leb (s.place / r.ring.seg + 6) (last_segment r.ring.seg s) (omega arith)

-- a reader that isn't overrun takes what there is
reader_near : (seg : ℕ) (s : Stage) (found : Option LogUnit) → is_overrun seg s ≡ false → slice_get s.log s.number ≡ found → after_reader seg s ≡ after_taking seg found s
reader_near seg s found near e = ap (λ (b : Bool). cond b (after_overrun seg s) (after_taking seg (slice_get s.log s.number) s)) near ∙ ap (λ (o : Option LogUnit). after_taking seg o s) e

-- and one that is goes on later
reader_far : (seg : ℕ) (s : Stage) → is_overrun seg s ≡ true → after_reader seg s ≡ after_overrun seg s
reader_far seg s far = ap (λ (b : Bool). cond b (after_overrun seg s) (after_taking seg (slice_get s.log s.number) s)) far

-- at the end of the log it waits, or has ended
at_end : (b : Bool) (s : Stage) (seg : ℕ) → eqb (count_writers s.writers) 0 ≡ b → after_taking seg None s ≡ record s { reading = cond b Ended Waits }
at_end b s seg e = ap (λ (x : Bool). record s { reading = cond x Ended Waits }) e

-- after the reader took a unit
pub at_took : (r : ReplayState) (cursor : CursorState) (s : Stage) → IsAt r s → cursor.seg ≡ r.cursor.seg → ¬ (IsOverrun r.ring r.cursor) → CursorTook cursor s.log s.number → Leads (Some answers.Took) (record r { cursor = cursor }) s (after_reader r.ring.seg s)
at_took r cursor s h seg near took =
    let same : cursor.seg ≡ r.ring.seg = seg ∙ h.same in
    subst (Leads (Some answers.Took) (record r { cursor = cursor }) s) (sym (reader_near r.ring.seg s (Some took.unit) (at_near r s h near) took.kth)) (
      record {
        wrote = h.wrote;
        writers = h.writers;
        drawn = h.drawn;
        same = same;
        cursor = took.stands;
        place = took.place ∙ ap (λ (g : ℕ). tail unit_words g (take (s.number + 1) s.log)) same;
        reading = h.reading;
        waits = h.waits;
        newest = unit_keeps_run took.unit s.history h.newest;
      },
      (took.unit, unit_met took.unit s.history h.newest, took.spells),
    )

-- after the reader was overrun, and sought
pub at_lost : (r : ReplayState) (cursor : CursorState) (at seen missed : ℕ) (s : Stage) → IsAt r s → cursor.seg ≡ r.cursor.seg → IsOverrun r.ring r.cursor → at ≡ r.cursor.place / r.cursor.seg → seen ≡ r.ring.counter → StandsAtStart cursor s.log (r.ring.counter - 4) → missed ≡ cursor.number - s.number
    → Leads (Some (answers.Overrun at seen missed)) (record r { cursor = cursor }) s (after_reader r.ring.seg s)
at_lost r cursor at seen missed s h seg far here last there cost =
    let same : cursor.seg ≡ r.ring.seg = seg ∙ h.same in
    let a : s.place / r.ring.seg ≡ at = sym (here ∙ at_segment r s h) in
    let b : last_segment r.ring.seg s ≡ seen = sym (last ∙ at_last r s h) in
    let from : r.ring.counter - 4 ≡ last_segment r.ring.seg s - 4 = ap (λ (n : ℕ). n - 4) (at_last r s h) in
    let start : segment_start unit_words r.ring.seg s.log (last_segment r.ring.seg s - 4) ≡ Some cursor.place = subst (λ (n : ℕ). segment_start unit_words r.ring.seg s.log n ≡ Some cursor.place) from
    (subst (λ (g : ℕ). segment_start unit_words g s.log (r.ring.counter - 4) ≡ Some cursor.place) same there.start) in
    let stands : Stands cursor s.log (first_number unit_words r.ring.seg s.log (last_segment r.ring.seg s - 4)) = subst (λ (n : ℕ). Stands cursor s.log (first_number unit_words r.ring.seg s.log n)) from (subst (λ (g : ℕ). Stands cursor s.log (first_number unit_words g s.log (r.ring.counter - 4))) same there.stands) in
    let missed_is : first_number unit_words r.ring.seg s.log (last_segment r.ring.seg s - 4) - s.number ≡ missed = sym (cost ∙ ap (λ (n : ℕ). n - s.number) stands.number) in
    subst (Leads (Some (answers.Overrun at seen missed)) (record r { cursor = cursor }) s) (sym (reader_far r.ring.seg s (at_far r s h far))) (
      record {
        wrote = h.wrote;
        writers = h.writers;
        drawn = h.drawn;
        same = same;
        cursor = stands;
        place = sym (ap (λ (o : Option ℕ). unwrap_or o 0) start);
        reading = h.reading;
        waits = h.waits;
        newest = tt;
      },
      overrun_items r.ring.seg s ∙ (λ i. met s ++ items.Overrun (a i) (b i) ∷ items.Missed (missed_is i) ∷ []),
    )

-- the reader meets the end of the log
meets_end : (r : ReplayState) (s : Stage) (b : Bool) → IsAt r s → ¬ (IsOverrun r.ring r.cursor) → s.number ≡ length s.log → r.ring.ended ≡ b → after_reader r.ring.seg s ≡ record s { reading = cond b Ended Waits }
meets_end r s b h near last e = reader_near r.ring.seg s None (at_near r s h near) (slice_get_past s.log s.number (omega arith)) ∙ at_end b s r.ring.seg (ap (λ (l : List (Option Log)). eqb (count_writers l) 0) (sym h.writers) ∙ sym h.wrote.ended ∙ e)

-- a cursor that stays leaves where a replay stands
at_same : (r : ReplayState) (cursor : CursorState) (reading : Reading) (s : Stage) → IsAt r s → cursor ≡ r.cursor → (reading ≡ Waits → 0 < count_writers s.writers) → IsAt (record r { cursor = cursor; reading = reading }) (record s { reading = reading })
at_same r cursor reading s h e waits = record {
  wrote = h.wrote;
  writers = h.writers;
  drawn = h.drawn;
  same = ap (λ (x : CursorState). x.seg) e ∙ h.same;
  cursor = subst (λ (x : CursorState). Stands x s.log s.number) (sym e) h.cursor;
  place = ap (λ (x : CursorState). x.place) e ∙ h.place;
  reading = refl;
  waits = waits;
  newest = h.newest;
}

-- after it met the end of the log, while a writer hasn't left
pub at_wait : (r : ReplayState) (cursor : CursorState) (s : Stage) → IsAt r s → ¬ (IsOverrun r.ring r.cursor) → s.number ≡ length s.log → r.ring.ended ≡ false → cursor ≡ r.cursor → Leads None (record r { cursor = cursor; reading = Waits }) s (after_reader r.ring.seg s)
at_wait r cursor s h near last running same = subst (Leads None (record r { cursor = cursor; reading = Waits }) s) (sym (meets_end r s false h near last running))
    (at_same r cursor Waits s h same (λ e. let n = eqb-false (count_writers r.writers) 0 (sym h.wrote.ended ∙ running) in let as_many = ap count_writers h.writers in omega arith), refl)

-- after it met the end of the log, when all writers had left
pub at_ended : (r : ReplayState) (cursor : CursorState) (s : Stage) → IsAt r s → ¬ (IsOverrun r.ring r.cursor) → s.number ≡ length s.log → r.ring.ended ≡ true → cursor ≡ r.cursor → Leads (Some answers.Ended) (record r { cursor = cursor; reading = Ended }) s (after_reader r.ring.seg s)
at_ended r cursor s h near last ended same = subst (Leads (Some answers.Ended) (record r { cursor = cursor; reading = Ended }) s) (sym (meets_end r s true h near last ended)) (at_same r cursor Ended s h same (λ e. cc e), (refl, refl))

-- what the reader's turn leads to
pub reader_inside : (answer : Option Advanced) (r old new : ReplayState) → r ≡ old → ((s : Stage) → IsAt r s → Leads answer new s (after_reader r.ring.seg s)) → (s : Stage) → IsAt old s → Leads answer new s (after_reader old.ring.seg s)
reader_inside answer r old new same leads = subst (λ (o : ReplayState). (s : Stage) → IsAt o s → Leads answer new s (after_reader o.ring.seg s)) same leads

-- a replay stays steady in the reader's turn
pub steady_reader : (active : ℕ) (answer : Option Advanced) (r new : ReplayState) → IsSteady active r → new.writers ≡ r.writers → ((s : Stage) → IsAt r s → Leads answer new s (after_reader r.ring.seg s)) → IsSteady active new
steady_reader active answer r new h same leads = record { counted = h.counted ∙ ap count_writers (sym same); few = h.few; stage = after_reader r.ring.seg h.stage; at = (leads h.stage h.at).0 }
