-- The kinds of turns, and turns one after another.
use Rattle.std.proofs.Common.{◌≡◌, ◌⊎◌, ℕ, zero, suc, ◌+◌, ◌<◌, ◌≤◌, Bool, true, false, cond, eqb, ltb, slice_get, sym, refl, ap, ◌∙◌, ⊎_elim, arith, Option, Some, None}
use Rattle.std.proofs.lemmas.Bool.{cond_both, ltb-true, ltb-false, eqb-true, eqb-false}
use Rattle.std.proofs.lemmas.Nat.{mod_below}
use Rattle.std.specs.Fn.{iterate}
use Rattle.std.specs.Option.{option_map}
use Rattle.vsl_record.specs.Unit.{LogUnit}
use Rattle.traffic_feed.specs.Turns.{next_draw}
use Rattle.feed_schedule.specs.Schedule.{Stage, Reading, Reads, Waits, Ended, count_writers, after_writer, after_taking, is_overrun, after_overrun, after_reader, is_reading, has_ended, count_active, after_turn_of, chosen_by, after_turn, after_turns}

-- ---- turns, whatever a turn is

module _ {S : Type 0} where
  -- where a turn changes nothing, turns change nothing
  pub stays_after : (n : ℕ) (turn : S → S) (s : S) → turn s ≡ s → iterate turn n s ≡ s
  stays_after zero turn s e = refl
  stays_after (suc n) turn s e = ap (iterate turn n) e ∙ stays_after n turn s e

  -- what each turn keeps is so after any number of turns
  pub turns_keep : (P : S → Type 0) (turn : S → S) → ((s : S) → P s → P (turn s)) → (n : ℕ) (s : S) → P s → P (iterate turn n s)
  turns_keep P turn keep zero s h = h
  turns_keep P turn keep (suc n) s h = turns_keep P turn keep n (turn s) (keep s h)

  -- two ends of the same turns are one
  pub one_end : (m n : ℕ) (turn : S → S) (s : S) (IsEnd : S → Type 0) → ((t : S) → IsEnd t → turn t ≡ t) → IsEnd (iterate turn m s) → IsEnd (iterate turn n s) → iterate turn m s ≡ iterate turn n s
  one_end zero n turn s IsEnd stays a b = sym (stays_after n turn s (stays s a))
  one_end (suc m) zero turn s IsEnd stays a b = stays_after (suc m) turn s (stays s b)
  one_end (suc m) (suc n) turn s IsEnd stays a b = one_end m n turn (turn s) IsEnd stays a b

  -- turns that come nearer to the end come to it
  pub come_to_end : (most : ℕ) (turn : S → S) (s : S) (P IsEnd : S → Type 0) (left : S → ℕ) → ((t : S) → P t → IsEnd t ⊎ (P (turn t) × (left (turn t) < left t))) → P s → left s ≤ most → (n : ℕ) × IsEnd (iterate turn n s)
  come_to_end zero turn s P IsEnd left nearer h l = ⊎_elim (λ e. (0, e)) (λ on. let falls = on.1 in absurd (omega arith)) (nearer s h)
  come_to_end (suc most) turn s P IsEnd left nearer h l = ⊎_elim (λ e. (0, e)) (λ on. let falls = on.1 in let r = come_to_end most turn (turn s) P IsEnd left nearer on.0 (omega arith) in (suc r.0, r.1)) (nearer s h)

-- ---- kinds of turns

-- what the reader is about where so many writers haven't left: it waits only for a writer, and has ended only where there is none
abbrev pub MayStand : Reading → ℕ → Type 0
MayStand Reads writers = Unit {0}
MayStand Waits writers = 0 < writers
MayStand Ended writers = writers ≡ 0

-- somebody may have a turn before the end
active_or_ended : (r : Reading) (writers : ℕ) → MayStand r writers → has_ended r ≡ false → 0 < writers + cond (is_reading r) 1 0
active_or_ended Reads writers h e = omega arith
active_or_ended Waits writers h e = omega arith
active_or_ended Ended writers h e = cc e

-- where it is no writer it is the reader
reads_past : (r : Reading) (writers k : ℕ) → writers ≤ k → k < writers + cond (is_reading r) 1 0 → r ≡ Reads
reads_past Reads writers k l a = refl
reads_past Waits writers k l a = absurd (omega arith)
reads_past Ended writers k l a = absurd (omega arith)

-- the one that was chosen may have a turn
pub chosen_below : (drawn : Option ℕ) (active : ℕ) → 0 < active → chosen_by drawn active < active
chosen_below None active some = omega arith
chosen_below (Some x) active some = mod_below (next_draw x) active some

-- what holds of a stage that has ended, after each turn of a writer, and after each of a reader that may have one, holds after a turn
pub turn_cases : (P : Stage → Type 0) (seg : ℕ) (s : Stage) → MayStand s.reading (count_writers s.writers) → (has_ended s.reading ≡ true → P s)
    → ((k : ℕ) (x : Option ℕ) → k < count_writers s.writers → P (after_writer k (record s { drawn = x }))) → ((x : Option ℕ) → s.reading ≡ Reads → P (after_reader seg (record s { drawn = x }))) → P (after_turn seg s)
turn_cases P seg s may ended writer reader =
    let count : ℕ = count_writers s.writers in
    let x : Option ℕ = option_map next_draw s.drawn in
    let k : ℕ = chosen_by s.drawn (count_active s) in
    let t : Stage = record s { drawn = x } in
    cond_both (has_ended s.reading) s (after_turn_of seg k t) P ended
    (λ e. cond_both (ltb k count) (after_writer k t) (after_reader seg t) P (λ l. writer k x (ltb-true k count l))
    (λ l. reader x (reads_past s.reading count k (ltb-false k count l) (chosen_below s.drawn (count_active s) (active_or_ended s.reading count may e)))))

-- what holds after an overrun, after a unit, and after a turn that meets the end of the log, holds after a turn of the reader
pub reader_cases : (P : Stage → Type 0) (seg : ℕ) (s : Stage) → (is_overrun seg s ≡ true → P (after_overrun seg s)) → ((u : LogUnit) → is_overrun seg s ≡ false → slice_get s.log s.number ≡ Some u → P (after_taking seg (Some u) s))
    → (is_overrun seg s ≡ false → slice_get s.log s.number ≡ None → P (after_taking seg None s)) → P (after_reader seg s)
reader_cases P seg s lost took none = cond_both (is_overrun seg s) (after_overrun seg s) (after_taking seg (slice_get s.log s.number) s) P lost (λ e. go e (slice_get s.log s.number) refl)
  where
    go : is_overrun seg s ≡ false → (found : Option LogUnit) → slice_get s.log s.number ≡ found → P (after_taking seg found s)
    go e None f = none e f
    go e (Some u) f = took u e f

-- what the reader is about where it met the end of the log
pub end_or_wait : (writers : ℕ) → MayStand (cond (eqb writers 0) Ended Waits) writers
end_or_wait writers = cond_both (eqb writers 0) Ended Waits (λ r. MayStand r writers) (λ e. eqb-true writers 0 e) (λ e. let some = eqb-false writers 0 e in omega arith)

-- what the reader is about after each kind of turn
pub turn_may_stand : (seg : ℕ) (s : Stage) → MayStand s.reading (count_writers s.writers) → MayStand (after_turn seg s).reading (count_writers (after_turn seg s).writers)
turn_may_stand seg s may = turn_cases (λ t. MayStand t.reading (count_writers t.writers)) seg s may (λ e. may) (λ k x l. tt)
    (λ x reads. reader_cases (λ t. MayStand t.reading (count_writers t.writers)) seg (record s { drawn = x }) (λ e. may) (λ u e f. may) (λ e f. end_or_wait (count_writers s.writers)))

-- after the end a turn changes nothing
pub turn_after_end : (seg : ℕ) (s : Stage) → has_ended s.reading ≡ true → after_turn seg s ≡ s
turn_after_end seg s e = ap (λ (b : Bool). cond b s (after_turn_of seg (chosen_by s.drawn (count_active s)) (record s { drawn = option_map next_draw s.drawn }))) e

-- nor do turns
pub turns_after_end : (n seg : ℕ) (s : Stage) → has_ended s.reading ≡ true → after_turns n seg s ≡ s
turns_after_end n seg s e = stays_after n (after_turn seg) s (turn_after_end seg s e)
