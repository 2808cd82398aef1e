-- What is so of whole schedules.
use Rattle.std.proofs.Common.{◌≡◌, ℕ, zero, suc, ◌/◌, ◌<◌, true, List, [], ◌∷◌, ◌++◌, length, reverse, sym, refl, ap, ◌∙◌, subst, arith, Option}
use Rattle.std.proofs.lemmas.List.{reverse-append, reverse-reverse}
use Rattle.std.specs.List.{All}
use Rattle.log_model.specs.Interleaving.{IsInterleaving}
use Rattle.vsl_record.specs.Unit.{LogUnit, Log}
use Rattle.vsl_record.specs.Words.{unit_words}
use Rattle.ring_layout.specs.declared.history.HistoryItem.{HistoryItem}
use Rattle.ring_layout.specs.declared.history.HistoryItem.TheVariants.{UnitRun, Overrun}
use Rattle.ring_layout.specs.Places.{IsSegment, tail, AreFit}
use Rattle.ring_layout.specs.History.{IsReadBack, IsReadHistory, ReachesTail}
use Rattle.feed_schedule.specs.Schedule.{Stage, Reading, Reads, Waits, Ended, first_stage, count_writers, has_ended, after_turn, after_turns, IsScheduled}
use Rattle.feed_schedule.proofs.WriterLemmas.{GoesOn, goes_on_end, goes_on_turn, goes_on_first}
use Rattle.feed_schedule.proofs.TurnLemmas.{MayStand, turn_cases, reader_cases, turn_may_stand, turn_after_end, turns_keep, one_end}
use Rattle.feed_schedule.proofs.ReaderLemmas.{EndsBefore}
use Rattle.feed_schedule.proofs.StageLemmas.{IsSound, sound_first, sound_turn, turns_end}

-- all writers have left at the end
pub none_at_end : (r : Reading) (writers : ℕ) → MayStand r writers → has_ended r ≡ true → writers ≡ 0
none_at_end Reads writers h e = cc e
none_at_end Waits writers h e = cc e
none_at_end Ended writers h e = h

-- what is put from a stage on is an interleaving of what was still to be put
log_goes_on : (n seg : ℕ) (s : Stage) → MayStand s.reading (count_writers s.writers) → has_ended (after_turns n seg s).reading ≡ true → GoesOn (after_turns n seg s).log s.log s.writers
log_goes_on zero seg s may e = goes_on_end s.log s.writers (none_at_end s.reading (count_writers s.writers) may e)
log_goes_on (suc n) seg s may e = let log : Log = (after_turns n seg (after_turn seg s)).log in
    let P : Stage → Type 0 = λ t. GoesOn log t.log t.writers → GoesOn log s.log s.writers in
    turn_cases P seg s may (λ ended h. h) (λ k x l. goes_on_turn k log s.log s.writers) (λ x reads. reader_cases P seg (record s { drawn = x }) (λ lost h. h) (λ u took f h. h) (λ none f h. h))
    (log_goes_on n seg (after_turn seg s) (turn_may_stand seg s may) e)

-- the law that the log is an interleaving of the feeds
pub schedule_interleaves : (seg : ℕ) (order : Option ℕ) (feeds : List Log) (log : Log) (history : List (HistoryItem LogUnit)) → IsScheduled seg order feeds log history → IsInterleaving log feeds
schedule_interleaves seg order feeds log history h = subst (λ l. IsInterleaving l feeds) (sym h.2) (goes_on_first _ feeds (log_goes_on h.0 seg (first_stage order feeds) tt h.1))

-- a segment has words
segment_pos : (seg : ℕ) → IsSegment seg → 0 < seg
segment_pos seg h = let least = h.0 in omega arith

-- each stage of a schedule is sound
pub stage_sound : (n seg : ℕ) (order : Option ℕ) (feeds : List Log) → IsSegment seg → All (AreFit unit_words seg) feeds → IsSound seg (after_turns n seg (first_stage order feeds))
stage_sound n seg order feeds segment fit = let pos = segment_pos seg segment in
    turns_keep (IsSound seg) (after_turn seg) (sound_turn seg pos) n (first_stage order feeds) (sound_first seg pos order feeds fit)

-- the law that each schedule ends
pub schedule_ends : (seg : ℕ) (order : Option ℕ) (feeds : List Log) → IsSegment seg → All (AreFit unit_words seg) feeds → (log : Log) × (history : List (HistoryItem LogUnit)) × IsScheduled seg order feeds log history
schedule_ends seg order feeds segment fit = let pos = segment_pos seg segment in let s : Stage = first_stage order feeds in
    let e = turns_end seg pos s (sound_first seg pos order feeds fit) in
    ((after_turns e.0 seg s).log, reverse (after_turns e.0 seg s).history, (e.0, e.1, refl, refl))

-- the law that it ends in one way
pub one_schedule : (seg : ℕ) (order : Option ℕ) (feeds : List Log) (a b : Log) (x y : List (HistoryItem LogUnit)) → IsScheduled seg order feeds a x → IsScheduled seg order feeds b y → (a ≡ b) × (x ≡ y)
one_schedule seg order feeds a b x y h g = let same = one_end h.0 g.0 (after_turn seg) (first_stage order feeds) (λ t. has_ended t.reading ≡ true) (turn_after_end seg) h.1 g.1 in
    (h.2 ∙ ap (λ (s : Stage). s.log) same ∙ sym g.2, h.3 ∙ ap (λ (s : Stage). reverse s.history) same ∙ sym g.3)

-- the first is the last of a list turned round
reverse_cons : {A : Type 0} (x : A) (xs : List A) → reverse (x ∷ xs) ≡ reverse xs ++ x ∷ []
reverse_cons x xs = reverse-append (x ∷ []) xs

-- the items of a reader that took all are a read history of the log, and reach its tail
history_whole : (seg : ℕ) (log : Log) (place : ℕ) (items : List (HistoryItem LogUnit)) → IsReadBack unit_words seg (tail unit_words seg log / seg) log items → EndsBefore seg log (length log) place items
    → IsReadHistory unit_words seg log (reverse items) × ReachesTail log (reverse items)
history_whole seg log place [] back newest = absurd newest
history_whole seg log place (UnitRun r ∷ items) back newest = (
  (λ e. cc (sym (reverse-reverse (UnitRun r ∷ items)) ∙ ap reverse e), subst (λ l. IsReadBack unit_words seg (tail unit_words seg log / seg) log l) (sym (reverse-reverse (UnitRun r ∷ items))) back),
  record { before = reverse items; run = r; last = reverse_cons (UnitRun r) items; ends = sym newest.0 },
)
history_whole seg log place (Overrun at seen ∷ items) back newest = absurd newest

-- the laws that the history is a read history of the log, and reaches its tail
pub schedule_read_whole : (seg : ℕ) (order : Option ℕ) (feeds : List Log) (log : Log) (history : List (HistoryItem LogUnit)) → IsSegment seg → All (AreFit unit_words seg) feeds → IsScheduled seg order feeds log history
    → IsReadHistory unit_words seg log history × ReachesTail log history
schedule_read_whole seg order feeds log history segment fit h = let s : Stage = after_turns h.0 seg (first_stage order feeds) in let sound = stage_sound h.0 seg order feeds segment fit in
    let whole = history_whole seg s.log s.place s.history sound.stands.back (subst (λ (k : ℕ). EndsBefore seg s.log k s.place s.history) (sound.all h.1) sound.stands.newest) in
    subst (λ l. IsReadHistory unit_words seg l history × ReachesTail l history) (sym h.2) (subst (λ l. IsReadHistory unit_words seg s.log l × ReachesTail s.log l) (sym h.3) whole)
