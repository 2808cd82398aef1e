-- What is so of each stage, and why turns come to an end.
--
-- Each stage is sound: the unit due to the reader is due at its place, and its items, the newest first, may have been taken; what was put and what is still to be put is fit. A put leaves that
-- so, since the log gets a unit more behind all. The reader's turn makes it so of the next unit, or after an overrun of the first unit of the segment four behind the writers'.
--
-- The measure falls with each turn before the end. It counts, with weights, the units still to be put and the writers that have not left; the units that the reader has still to pass; and whether
-- the reader may have a turn. A writer's turn lessens the first. The reader passes a unit or more, or stops having turns until a writer has one. An overrun passes a unit too: the one that is due
-- starts at most one segment after the reader's place, and the reader goes on two segments after it or later.
use Rattle.std.proofs.Common.{◌≡◌, ℕ, ◌+◌, ◌-◌, ◌*◌, ◌/◌, ◌<◌, true, false, cond, eqb, List, length, slice_get, refl, ap, ⊎_elim, inl, inr, arith, Option, Some, None, length-append}
use Rattle.std.proofs.lemmas.Bool.{cond_both, cases_Bool, leb-true}
use Rattle.std.proofs.lemmas.Option.{slice_get_within}
use Rattle.std.specs.List.{All}
use Rattle.vsl_record.specs.Unit.{LogUnit, Log}
use Rattle.vsl_record.specs.Words.{unit_words}
use Rattle.ring_layout.specs.Places.{AreFit}
use Rattle.feed_schedule.specs.Schedule.{Stage, Reading, Reads, Waits, Ended, first_stage, count_writers, put_by, after_writer, after_taking, last_segment, is_overrun, after_overrun, is_reading, has_ended, after_turn, after_turns}
use Rattle.feed_schedule.specs.Replaying.{waiting}
use Rattle.feed_schedule.proofs.WriterLemmas.{leave_counts, stays_longer}
use Rattle.feed_schedule.proofs.WaitingLemmas.{put_length, fit_append, put_is_fit, first_is_fit}
use Rattle.feed_schedule.proofs.TurnLemmas.{come_to_end, MayStand, turn_cases, reader_cases, end_or_wait}
use Rattle.feed_schedule.proofs.ReaderLemmas.{StandsAt, stands_stays, stands_first, stands_taken, stands_overrun, overrun_rises, none_there}

-- what is so of each stage
pub record IsSound (seg : ℕ) (s : Stage) : Type 0 where
  pub stands : StandsAt seg s.log s.number s.place s.history
  pub fit : AreFit unit_words seg s.log
  pub to_put : AreFit unit_words seg (waiting s.writers)
  pub may : MayStand s.reading (count_writers s.writers)
  -- the reader took all where it has ended
  pub all : has_ended s.reading ≡ true → s.number ≡ length s.log

-- how far a stage is from the end
abbrev pub turns_left : Stage → ℕ
turns_left s = 4 * (length (waiting s.writers) + count_writers s.writers) + 2 * (length s.log + length (waiting s.writers) - s.number) + cond (is_reading s.reading) 1 0

module _ (seg : ℕ) (pos : 0 < seg) where
  -- before the first turn
  pub sound_first : (order : Option ℕ) (feeds : List Log) → All (AreFit unit_words seg) feeds → IsSound seg (first_stage order feeds)
  sound_first order feeds fit = record {
    stands = stands_first seg pos;
    fit = tt;
    to_put = first_is_fit seg feeds fit;
    may = tt;
    all = λ e. refl;
  }

  -- each kind of turn keeps a stage sound: a writer's
  sound_writer : (k : ℕ) (s : Stage) → IsSound seg s → IsSound seg (after_writer k s)
  sound_writer k s h = record {
    stands = stays_longer (λ l. StandsAt seg l s.number s.place s.history) (λ l u. stands_stays seg pos l u s.number s.place s.history) s.log (put_by k s.writers) h.stands;
    fit = fit_append seg s.log (put_by k s.writers) h.fit (put_is_fit seg k s.writers h.to_put).0;
    to_put = (put_is_fit seg k s.writers h.to_put).1;
    may = tt;
    all = λ e. cc e;
  }

  -- one in which the reader is overrun
  sound_overrun : (s : Stage) → s.reading ≡ Reads → is_overrun seg s ≡ true → IsSound seg s → IsSound seg (after_overrun seg s)
  sound_overrun s reads e h = record {
    stands = stands_overrun seg pos s.log s.number s.place s.history h.fit (leb-true (s.place / seg + 6) (last_segment seg s) e) h.stands;
    fit = h.fit;
    to_put = h.to_put;
    may = h.may;
    all = λ ended. cc (ended, reads);
  }

  -- one in which it takes a unit
  sound_taken : (s : Stage) (u : LogUnit) → s.reading ≡ Reads → slice_get s.log s.number ≡ Some u → IsSound seg s → IsSound seg (after_taking seg (Some u) s)
  sound_taken s u reads e h = record {
    stands = stands_taken seg pos s.log u s.number s.place s.history e h.stands;
    fit = h.fit;
    to_put = h.to_put;
    may = h.may;
    all = λ ended. cc (ended, reads);
  }

  -- and one in which it meets the end of the log
  sound_met_end : (s : Stage) → slice_get s.log s.number ≡ None → IsSound seg s → IsSound seg (after_taking seg None s)
  sound_met_end s e h = record {
    stands = h.stands;
    fit = h.fit;
    to_put = h.to_put;
    may = end_or_wait (count_writers s.writers);
    all = λ ended. let n = none_there s.log s.number e in let d = h.stands.due.0 in omega arith;
  }

  -- each turn keeps a stage sound
  pub sound_turn : (s : Stage) → IsSound seg s → IsSound seg (after_turn seg s)
  sound_turn s h = turn_cases (IsSound seg) seg s h.may (λ e. h) (λ k x l. sound_writer k (record s { drawn = x }) (sound_drawn s x h))
      (λ x reads. let t : Stage = record s { drawn = x } in let d = sound_drawn s x h in reader_cases (IsSound seg) seg t (λ e. sound_overrun t reads e d) (λ u e f. sound_taken t u reads f d) (λ e f. sound_met_end t f d))
    where
      sound_drawn : (s : Stage) (x : Option ℕ) → IsSound seg s → IsSound seg (record s { drawn = x })
      sound_drawn s x h = record { stands = h.stands; fit = h.fit; to_put = h.to_put; may = h.may; all = h.all }

  -- each kind of turn lessens what is left: a writer's
  falls_writer : (k : ℕ) (s : Stage) → k < count_writers s.writers → IsSound seg s → turns_left (after_writer k s) < turns_left s
  falls_writer k s l h = let put = put_length k s.writers in let left = leave_counts k s.writers l in let longer = length-append s.log (put_by k s.writers) in let d = h.stands.due.0 in omega arith

  -- a reader that may have a turn counts one
  reads_one : (r : Reading) → r ≡ Reads → ◌≡◌ {A = ℕ} (cond (is_reading r) 1 0) 1
  reads_one r reads = ap (λ (x : Reading). cond (is_reading x) 1 0) reads

  -- one in which the reader is overrun
  falls_overrun : (s : Stage) → is_overrun seg s ≡ true → IsSound seg s → turns_left (after_overrun seg s) < turns_left s
  falls_overrun s e h = let far = leb-true (s.place / seg + 6) (last_segment seg s) e in let rises = overrun_rises seg pos s.log s.number s.place h.fit h.stands.due far in
      let later = stands_overrun seg pos s.log s.number s.place s.history h.fit far h.stands in let d = later.due.0 in omega arith

  -- one in which it takes a unit
  falls_taken : (s : Stage) (u : LogUnit) → slice_get s.log s.number ≡ Some u → IsSound seg s → turns_left (after_taking seg (Some u) s) < turns_left s
  falls_taken s u e h = let i = slice_get_within s.log s.number u e in omega arith

  -- and one in which it meets the end of the log
  falls_met_end : (s : Stage) → s.reading ≡ Reads → turns_left (after_taking seg None s) < turns_left s
  falls_met_end s reads = let one = reads_one s.reading reads in cond_both (eqb (count_writers s.writers) 0) Ended Waits
      (λ r. 4 * (length (waiting s.writers) + count_writers s.writers) + 2 * (length s.log + length (waiting s.writers) - s.number) + cond (is_reading r) 1 0 < turns_left s) (λ e. omega arith) (λ e. omega arith)

  -- each turn before the end lessens what is left
  pub turn_falls : (s : Stage) → IsSound seg s → has_ended s.reading ≡ false → turns_left (after_turn seg s) < turns_left s
  turn_falls s h before = turn_cases (λ t. turns_left t < turns_left s) seg s h.may (λ e. cc (e, before)) (λ k x l. falls_writer k s l h)
      (λ x reads. reader_cases (λ t. turns_left t < turns_left s) seg (record s { drawn = x }) (λ e. falls_overrun s e h) (λ u e f. falls_taken s u f h) (λ e f. falls_met_end s reads))

  -- turns come to an end
  pub turns_end : (s : Stage) → IsSound seg s → (n : ℕ) × (has_ended (after_turns n seg s).reading ≡ true)
  turns_end s h = come_to_end (turns_left s) (after_turn seg) s (IsSound seg) (λ t. has_ended t.reading ≡ true) turns_left
      (λ t sound. ⊎_elim (λ e. inl e) (λ before. inr (sound_turn t sound, turn_falls t sound before)) (cases_Bool (has_ended t.reading))) h (omega arith)
