-- Whose turn it is, and where a replay stands after a turn.
use Rattle.std.proofs.Common.{◌≡◌, ℕ, ◌+◌, ◌<◌, ◌≤◌, Bool, false, cond, sym, refl, ap, ◌∙◌, subst, arith, Option, None, lt-ltb}
use Rattle.std.proofs.lemmas.Bool.{le-ltb}
use Rattle.std.specs.Option.{option_map}
use Rattle.traffic_feed.specs.Turns.{next_draw}
use Rattle.feed_schedule.specs.declared.replay.Advanced.{Advanced}
use Rattle.feed_schedule.specs.Schedule.{Reading, Stage, count_writers, after_writer, after_reader, is_reading, has_ended, count_active, after_turn_of, chosen_by, after_turn}
use Rattle.feed_schedule.specs.Replaying.{ReplayState, IsAt}
use Rattle.feed_schedule.specs.inside.Turning.{IsSteady, with_draw, Leads}

-- after it was drawn whose turn it is
pub at_drawn : (r : ReplayState) (s : Stage) → IsAt r s → IsAt (record r { drawn = option_map next_draw r.drawn }) (with_draw s)
at_drawn r s h = record {
  wrote = h.wrote;
  writers = h.writers;
  drawn = ap (option_map next_draw) h.drawn;
  same = h.same;
  cursor = h.cursor;
  place = h.place;
  reading = h.reading;
  waits = h.waits;
  newest = h.newest;
}

-- a replay stays steady then
pub steady_drawn : (active : ℕ) (r : ReplayState) → IsSteady active r → IsSteady active (record r { drawn = option_map next_draw r.drawn })
steady_drawn active r h = record { counted = h.counted; few = h.few; stage = with_draw h.stage; at = at_drawn r h.stage h.at }

-- so many writers as are counted have not left in the stage
pub counts_stage : (active : ℕ) (r mid old : ReplayState) (s : Stage) → r ≡ mid → active ≡ count_writers r.writers → mid.writers ≡ old.writers → IsAt old s → active ≡ count_writers s.writers
counts_stage active r mid old s same counted kept h = counted ∙ ap (λ (o : ReplayState). count_writers o.writers) same ∙ ap count_writers kept ∙ ap count_writers h.writers

-- who is chosen of the writers that are counted, and the reader, is chosen in the stage
pub chosen_at : (active reader : ℕ) (r old : ReplayState) (s : Stage) → r ≡ old → active ≡ count_writers r.writers → reader ≡ cond (is_reading r.reading) 1 0 → IsAt old s → chosen_by r.drawn (active + reader) ≡ chosen_by s.drawn (count_active s)
chosen_at active reader r old s same counted reads h =
    let writers = counts_stage active r old old s same counted refl h in
    let reader_is : reader ≡ cond (is_reading s.reading) 1 0 = reads ∙ ap (λ (o : ReplayState). cond (is_reading o.reading) 1 0) same ∙ ap (λ (x : Reading). cond (is_reading x) 1 0) h.reading in
    ap (λ (x : Option ℕ). chosen_by x (active + reader)) (ap (λ (o : ReplayState). o.drawn) same ∙ h.drawn) ∙ ap (chosen_by s.drawn) (omega arith)

-- a turn before the end is that of the one that was chosen
turn_is : (seg k : ℕ) (s : Stage) → has_ended s.reading ≡ false → k ≡ chosen_by s.drawn (count_active s) → after_turn_of seg k (with_draw s) ≡ after_turn seg s
turn_is seg k s before chosen =
    ap (λ (j : ℕ). after_turn_of seg j (with_draw s)) chosen ∙ ap (λ (b : Bool). cond b s (after_turn_of seg (chosen_by s.drawn (count_active s)) (with_draw s))) (sym before)

-- where it was a writer's, nothing was met
pub writer_turn : (active k : ℕ) (old new : ReplayState) (s : Stage) → has_ended old.reading ≡ false → IsAt old s → active ≡ count_writers s.writers → k ≡ chosen_by s.drawn (count_active s) → k < active
    → IsAt new (after_writer k (with_draw s)) → Leads None new s (after_turn old.ring.seg s)
writer_turn active k old new s before h count chosen below at =
    let t : Stage = with_draw s in
    let is : after_writer k t ≡ after_turn_of old.ring.seg k t = ap (λ (b : Bool). cond b (after_writer k t) (after_reader old.ring.seg t)) (sym (lt-ltb k (count_writers s.writers) (omega arith))) in
    subst (Leads None new s) (is ∙ turn_is old.ring.seg k s (ap has_ended (sym h.reading) ∙ before) chosen) (at, refl)

-- where it was the reader's, what the reader met
pub reader_turn : (active k seg : ℕ) (answer : Option Advanced) (old new : ReplayState) (s : Stage) → has_ended old.reading ≡ false → IsAt old s → active ≡ count_writers s.writers → k ≡ chosen_by s.drawn (count_active s) → active ≤ k → seg ≡ old.ring.seg
    → Leads answer new (with_draw s) (after_reader seg (with_draw s)) → Leads answer new s (after_turn old.ring.seg s)
reader_turn active k seg answer old new s before h count chosen past same leads =
    let t : Stage = with_draw s in
    let is : after_reader old.ring.seg t ≡ after_turn_of old.ring.seg k t = ap (λ (b : Bool). cond b (after_writer k t) (after_reader old.ring.seg t)) (sym (le-ltb k (count_writers s.writers) (omega arith))) in
    subst (Leads answer new s) (ap (λ (g : ℕ). after_reader g t) same ∙ (is ∙ turn_is old.ring.seg k s (ap has_ended (sym h.reading) ∙ before) chosen)) leads
