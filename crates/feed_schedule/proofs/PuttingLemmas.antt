-- Where writers stand before the first turn and after a turn, and a replay with them. A put isn't refused: no unit has more words than a segment, and it moves the tail by at most twice its words.
use Rattle.std.proofs.Common.{◌≡◌, ℕ, ◌+◌, ◌*◌, ◌/◌, ◌%◌, ◌<◌, ◌≤◌, eqb, List, [], ◌∷◌, ◌++◌, length, map, set, sym, refl, ap, ◌∙◌, subst, arith, Option, Some, None, append_assoc, div-add-mod', mod-lt}
use Rattle.std.proofs.lemmas.List.{append-nil, length-map}
use Rattle.std.proofs.lemmas.List.Sums.{sum_by-cons}
use Rattle.std.proofs.lemmas.Bool.{le-ltb}
use Rattle.std.specs.List.{All}
use mathlib.Core.Logic.{dite}
use native.Mathlib.Decide.{dec_lt}
use Rattle.vsl_record.specs.Unit.{LogUnit, Log}
use Rattle.vsl_record.specs.Words.{unit_words}
use Rattle.ring_layout.specs.Places.{end_at, tail, AreFit, last_tail}
use Rattle.ring_layout.proofs.PushLemmas.{tail_push}
use Rattle.ring_layout.proofs.EntriesLemmas.{at_stay, at_wrap}
use Rattle.ring_plain.specs.Ring.{RingState, IsRingOf, put_fault}
use Rattle.ring_plain.specs.Cursor.{Stands}
use Rattle.ring_plain.proofs.CursorLemmas.{stands_longer}
use Rattle.traffic_feed.specs.Listing.{word_count}
use Rattle.feed_schedule.specs.Schedule.{Reads, Stage, count_writers, put_by, without_next, after_writer}
use Rattle.feed_schedule.specs.Replaying.{ReplayState, AreAt, IsAt, count_feed_words, waiting}
use Rattle.feed_schedule.specs.Unread.{count_turns}
use Rattle.feed_schedule.specs.inside.Turning.{IsSteady, turns_to_come}
use Rattle.feed_schedule.proofs.WriterLemmas.{leave_counts, count_falls, stays_longer}
use Rattle.feed_schedule.proofs.WaitingLemmas.{put_words, put_is_fit, IsWriterAt, puts_at, leaves_at, first_is_fit, first_words, first_count}
use Rattle.feed_schedule.proofs.UnreadLemmas.{turn_less}

-- a unit moves the tail by at most twice its words
pub end_twice : (seg t w : ℕ) → 0 < seg → end_at seg t w ≤ t + 2 * w
end_twice seg t w pos = dite (dec_lt (t % (8 * seg) + w) (8 * seg))
    (λ l. subst (λ (z : ℕ). z + w ≤ t + 2 * w) (sym (at_stay seg t w l)) (omega arith))
    (λ n. subst (λ (z : ℕ). z + w ≤ t + 2 * w) (sym (at_wrap seg t w (omega arith)))
    (let p : t / (8 * seg) * (8 * seg) + t % (8 * seg) ≡ t = div-add-mod' t (8 * seg) in let m : t % (8 * seg) < 8 * seg = mod-lt t (omega arith) in omega arith))

-- so do more units
pub tail_twice : (seg : ℕ) (log more : Log) → 0 < seg → tail unit_words seg (log ++ more) ≤ tail unit_words seg log + 2 * word_count more
tail_twice seg log [] pos = subst (λ (l : Log). tail unit_words seg l ≤ tail unit_words seg log + 2 * word_count []) (sym (append-nil log)) (omega arith)
tail_twice seg log (u ∷ more) pos =
    let r = tail_twice seg (log ++ u ∷ []) more pos in
    let a = ap (tail unit_words seg) (append_assoc log (u ∷ []) more) in
    let b = tail_push unit_words seg log u in
    let c = end_twice seg (tail unit_words seg log) (length (unit_words u)) pos in
    let d = sum_by-cons (λ (v : LogUnit). length (unit_words v)) u more in
    omega arith

-- a segment has words
pub ring_pos : (ring : RingState) (log : Log) → IsRingOf ring log → 0 < ring.seg
ring_pos ring log h = let s = h.segment in omega arith

-- a unit that the writer at a place puts isn't refused
pub room_at : (ring : RingState) (writers : List (Option Log)) (log : Log) (k place : ℕ) (w : Option Log) (u : LogUnit) → AreAt ring writers log → IsWriterAt writers k place w → put_by 0 (w ∷ []) ≡ u ∷ [] → put_fault ring u ≡ None
room_at ring writers log k place w u h at alone =
    let e : put_by k writers ≡ u ∷ [] = puts_at writers k place w at ∙ alone in
    let size : ℕ = length (unit_words u) in
    let f = subst (AreFit unit_words ring.seg) e (put_is_fit ring.seg k writers h.fit).0 in
    let fits : size ≤ ring.seg = f.0.1 in
    let room = h.room in
    let words = put_words k writers in
    let same = ap word_count e in
    let twice = end_twice ring.seg ring.tail size (ring_pos ring log h.in_ring) in
    let low : end_at ring.seg ring.tail size ≤ last_tail = omega arith in
    rw (le-ltb ring.seg size fits, le-ltb last_tail (end_at ring.seg ring.tail size) low) refl

-- a writer had a turn: what it put is in the ring, which ends with the last writer; so many have not left then
pub record Wrote (old : RingState) (waited : List (Option Log)) (k left : ℕ) (ring : RingState) (writers : List (Option Log)) : Type 0 where
  pub seg : ring.seg ≡ old.seg
  pub put : (log : Log) → IsRingOf old log → IsRingOf ring (log ++ put_by k waited)
  pub rest : writers ≡ without_next k waited
  pub count : left ≡ count_writers writers
  pub ended : ring.ended ≡ eqb (count_writers writers) 0
  pub fewer : count_turns writers + 1 ≡ count_turns waited

-- so had one that is found by its place
pub wrote_at : (old : RingState) (waited : List (Option Log)) (k place active left : ℕ) (w after : Option Log) (ring : RingState) → IsWriterAt waited k place w → k < count_writers waited → active ≡ count_writers waited → ring.seg ≡ old.seg
    → ((log : Log) → IsRingOf old log → IsRingOf ring (log ++ put_by 0 (w ∷ []))) → without_next 0 (w ∷ []) ≡ after ∷ [] → left + 1 ≡ length (put_by 0 (w ∷ [])) + active → ring.ended ≡ eqb left 0
    → Wrote old waited k left ring (set waited place after)
wrote_at old waited k place active left w after ring at below counted seg put alone lefts ended =
    let puts = puts_at waited k place w at in
    let rest = leaves_at waited k place w after at alone in
    let a = leave_counts k waited below in
    let c = ap (λ (l : Log). length l) puts in
    let d = ap count_writers rest in
    let e = ap count_turns rest in
    let less = turn_less k waited below in
    let count : left ≡ count_writers (set waited place after) = omega arith in
    record {
      seg = seg;
      put = λ log h. subst (λ (l : Log). IsRingOf ring (log ++ l)) (sym puts) (put log h);
      rest = sym rest;
      count = count;
      ended = ended ∙ ap (λ (n : ℕ). eqb n 0) count;
      fewer = omega arith;
    }

-- where writers stand then
pub at_written : (ring : RingState) (writers : List (Option Log)) (k left : ℕ) (ring' : RingState) (writers' : List (Option Log)) (log : Log) → AreAt ring writers log → Wrote ring writers k left ring' writers' → AreAt ring' writers' (log ++ put_by k writers)
at_written ring writers k left ring' writers' log h wrote =
    let is : IsRingOf ring' (log ++ put_by k writers) = wrote.put log h.in_ring in
    let words = put_words k writers in
    let moved = tail_twice ring.seg log (put_by k writers) (ring_pos ring log h.in_ring) in
    let was = h.in_ring.tail_is in
    let now = is.tail_is in
    let segs = ap (λ (g : ℕ). tail unit_words g (log ++ put_by k writers)) wrote.seg in
    let room = h.room in
    let rest = ap (λ (l : List (Option Log)). word_count (waiting l)) wrote.rest in
    let fit = subst (AreFit unit_words ring.seg) (ap waiting (sym wrote.rest)) (put_is_fit ring.seg k writers h.fit).1 in
    record {
      in_ring = is;
      ended = wrote.ended;
      fit = subst (λ (g : ℕ). AreFit unit_words g (waiting writers')) (sym wrote.seg) fit;
      room = omega arith;
    }

-- where a replay does
pub at_writer : (r : ReplayState) (k left : ℕ) (ring : RingState) (writers : List (Option Log)) (s : Stage) → Wrote r.ring r.writers k left ring writers → IsAt r s → IsAt (record r { ring = ring; writers = writers; reading = Reads }) (after_writer k s)
at_writer r k left ring writers s wrote h =
    let pos : 0 < r.cursor.seg = (let p = ring_pos r.ring s.log h.wrote.in_ring in let e = h.same in omega arith) in
    record {
      wrote = subst (λ (l : List (Option Log)). AreAt ring writers (s.log ++ put_by k l)) h.writers (at_written r.ring r.writers k left ring writers s.log h.wrote wrote);
      writers = wrote.rest ∙ ap (without_next k) h.writers;
      drawn = h.drawn;
      same = h.same ∙ sym wrote.seg;
      cursor = stays_longer (λ l. Stands r.cursor l s.number) (λ l u. stands_longer r.cursor l u s.number pos) s.log (put_by k s.writers) h.cursor;
      place = h.place;
      reading = refl;
      waits = λ e. cc e;
      newest = h.newest;
    }

-- a replay stays steady in a writer's turn
pub steady_writer : (r : ReplayState) (k active left : ℕ) (ring : RingState) (writers : List (Option Log)) → Wrote r.ring r.writers k left ring writers → IsSteady active r → IsSteady left (record r { ring = ring; writers = writers; reading = Reads })
steady_writer r k active left ring writers wrote h = record {
  counted = wrote.count;
  few = let a = wrote.count in let b = count_falls k r.writers in let c = ap count_writers wrote.rest in let d = h.counted in let e = h.few in omega arith;
  stage = after_writer k h.stage;
  at = at_writer r k left ring writers h.stage wrote h.at;
}

-- fewer turns are to come
pub fewer_writer : (r old : ReplayState) (k left : ℕ) (ring : RingState) (writers : List (Option Log)) → r ≡ old → Wrote r.ring r.writers k left ring writers → turns_to_come (record r { ring = ring; writers = writers; reading = Reads }) < turns_to_come old
fewer_writer r old k left ring writers same wrote =
    subst (λ (o : ReplayState). turns_to_come (record r { ring = ring; writers = writers; reading = Reads }) < turns_to_come o) same (let fewer = wrote.fewer in omega arith)

-- what a writer's turn leads to
pub writer_inside : (k : ℕ) (r old new : ReplayState) → r ≡ old → ((s : Stage) → IsAt r s → IsAt new (after_writer k s)) → (s : Stage) → IsAt old s → IsAt new (after_writer k s)
writer_inside k r old new same at = subst (λ (o : ReplayState). (s : Stage) → IsAt o s → IsAt new (after_writer k s)) same at

-- ---- before the first turn

-- no writer has left
pub counts_first : (feeds : List Log) (writers : List (Option Log)) (active : ℕ) → writers ≡ map Some feeds → active ≡ length writers → active ≡ count_writers writers
counts_first feeds writers active ws count = count ∙ (ap (λ (l : List (Option Log)). length l) ws ∙ (length-map feeds Some ∙ (sym (first_count feeds) ∙ ap count_writers (sym ws))))

-- where writers stand
pub at_first : (seg : ℕ) (feeds : List Log) (ring : RingState) (writers : List (Option Log)) (active : ℕ) → All (AreFit unit_words seg) feeds → 2 * count_feed_words feeds ≤ last_tail → ring.seg ≡ seg → IsRingOf ring []
    → ring.ended ≡ eqb active 0 → writers ≡ map Some feeds → active ≡ length writers → AreAt ring writers []
at_first seg feeds ring writers active fit few seg_is empty ended ws count =
    let words = ap (λ (l : List (Option Log)). word_count (waiting l)) ws ∙ first_words feeds in
    let at_zero : ring.tail ≡ 0 = empty.tail_is in
    let all_fit = subst (AreFit unit_words seg) (ap waiting (sym ws)) (first_is_fit seg feeds fit) in
    record {
      in_ring = empty;
      ended = ended ∙ ap (λ (n : ℕ). eqb n 0) (counts_first feeds writers active ws count);
      fit = subst (λ (g : ℕ). AreFit unit_words g (waiting writers)) (sym seg_is) all_fit;
      room = omega arith;
    }
