-- Where writers that count what they put stand between two turns.
use Rattle.std.proofs.Common.{◌≡◌, ℕ, suc, ◌+◌, ◌*◌, ◌/◌, ◌%◌, ◌^◌, ◌<◌, ◌≤◌, Bool, cond, eqb, List, [], ◌∷◌, ◌++◌, length, map, replicate, sym, ap, ◌∙◌, arith, Option, Some, lt-ltb, le-ltb, append_assoc}
use Rattle.std.proofs.lemmas.List.{append-nil}
use Rattle.std.proofs.lemmas.Nat.{le-div}
use Rattle.std.proofs.Math.Nat.{div-le_of_le-mul}
use mathlib.Core.Logic.{dite}
use native.Mathlib.Decide.{dec_lt}
use Rattle.std.specs.List.{All}
use Rattle.std.specs.Option.{option_map}
use Rattle.vsl_record.specs.Unit.{Log}
use Rattle.vsl_record.specs.Words.{unit_words}
use Rattle.ring_layout.specs.Places.{stays, end_at, tail_from, AreFit, last_tail}
use Rattle.ring_layout.proofs.AgreedLemmas.{div_up}
use Rattle.ring_layout.proofs.EntriesLemmas.{at_wrap}
use Rattle.ring_layout.proofs.TakenLemmas.{start_above}
use Rattle.ring_plain.specs.Ring.{RingState, IsRingOf, wraps_from, count_wraps}
use Rattle.counter_segments.specs.Sums.{counter_count}
use Rattle.traffic_feed.specs.declared.listing.Listing.{Listing}
use Rattle.traffic_feed.specs.Counted.{counter_values}
use Rattle.traffic_feed.specs.Turns.{first_draw, next_draw}
use Rattle.feed_schedule.specs.Schedule.{count_writers, put_by, without_next, chosen_by}
use Rattle.feed_schedule.specs.Replaying.{count_feed_words}
use Rattle.feed_schedule.specs.Unread.{count_turns, put_in, IsUnread}
use Rattle.feed_schedule.specs.inside.Counting.{HaveWritten}
use Rattle.feed_schedule.proofs.PuttingLemmas.{ring_pos, Wrote, at_written, counts_first, at_first}
use Rattle.feed_schedule.proofs.UnreadLemmas.{some_left}

-- ---- turns

-- turns go on
pub written_turn : (seg : ℕ) (order : Option ℕ) (feeds : List Log) (ring : RingState) (writers : List (Option Log)) (active k left : ℕ) (drawn then_drawn : Option ℕ) (ring' : RingState) (writers' : List (Option Log))
    → k ≡ chosen_by drawn active → then_drawn ≡ option_map next_draw drawn → Wrote ring writers k left ring' writers' → HaveWritten seg order feeds ring writers active drawn → HaveWritten seg order feeds ring' writers' left then_drawn
written_turn seg order feeds ring writers active k left drawn then_drawn ring' writers' chosen draws wrote h =
    let n : ℕ = count_turns writers' in
    let to_come : Log = put_in n then_drawn writers' in
    let j : ℕ = chosen_by drawn (count_writers writers) in
    let kth : k ≡ j = chosen ∙ ap (chosen_by drawn) h.counted in
    let rest : writers' ≡ without_next k writers = wrote.rest in
    let step : put_by k writers ++ to_come ≡ put_by j writers ++ put_in n (option_map next_draw drawn) (without_next j writers) = cc (draws, rest, kth) in
    let fewer : suc n ≡ count_turns writers = (let f = wrote.fewer in omega arith) in
    let same : put_by k writers ++ to_come ≡ put_in (count_turns writers) drawn writers = step ∙ ap (λ (m : ℕ). put_in m drawn writers) fewer in
    record {
      seg_is = wrote.seg ∙ h.seg_is;
      counted = wrote.count;
      log = h.log ++ put_by k writers;
      at = at_written ring writers k left ring' writers' h.log h.at wrote;
      whole = append_assoc h.log (put_by k writers) to_come ∙ ap (λ (l : Log). h.log ++ l) same ∙ h.whole;
    }

-- before the first turn
pub written_first : (seg : ℕ) (order : Option ℕ) (feeds : List Log) (ring : RingState) (writers : List (Option Log)) (active : ℕ) (drawn : Option ℕ) → All (AreFit unit_words seg) feeds → 2 * count_feed_words feeds ≤ last_tail → ring.seg ≡ seg → IsRingOf ring []
    → ring.ended ≡ eqb active 0 → writers ≡ map Some feeds → active ≡ length writers → drawn ≡ option_map first_draw order → HaveWritten seg order feeds ring writers active drawn
written_first seg order feeds ring writers active drawn fit few seg_is empty ended ws count draws = record {
  seg_is = seg_is;
  counted = counts_first feeds writers active ws count;
  log = [];
  at = at_first seg feeds ring writers active fit few seg_is empty ended ws count;
  whole = ap (λ (l : List (Option Log)). put_in (count_turns l) drawn l) ws ∙ ap (λ (o : Option ℕ). put_in (count_turns (map Some feeds)) o (map Some feeds)) draws;
}

-- ---- the units that wrap

-- each unit that wraps starts a lap
wraps_low : (seg t : ℕ) (log : Log) → 0 < seg → wraps_from seg t log + t / (8 * seg) ≤ tail_from unit_words seg t log / (8 * seg)
wraps_low seg t [] pos = omega arith
wraps_low seg t (u ∷ log) pos =
    let w : ℕ = length (unit_words u) in
    let rest = wraps_low seg (end_at seg t w) log pos in
    let above = start_above seg t w pos in
    dite (dec_lt (t % (8 * seg) + w) (8 * seg))
    (λ near.
    let none : ◌≡◌ {A = ℕ} (cond (stays seg t w) 0 1) 0 = ap (λ (b : Bool). cond b 0 1) (lt-ltb (t % (8 * seg) + w) (8 * seg) near) in
    let up = div_up (8 * seg) t (end_at seg t w) (omega arith) (omega arith) in
    omega arith)
    (λ far.
    let one : ◌≡◌ {A = ℕ} (cond (stays seg t w) 0 1) 1 = ap (λ (b : Bool). cond b 0 1) (le-ltb (t % (8 * seg) + w) (8 * seg) (omega arith)) in
    let starts = at_wrap seg t w (omega arith) in
    let up = le-div (t / (8 * seg) + 1) (end_at seg t w) (8 * seg) (omega arith) (omega arith) in
    omega arith)

-- so few do
pub few_wraps : (ring : RingState) (log : Log) → IsRingOf ring log → ring.wraps ≤ 2 ^ 53
few_wraps ring log h =
    let wraps = wraps_low ring.seg 0 log (ring_pos ring log h) in
    let seg = h.segment in
    let low = h.low in
    let is = h.wraps_are in
    let tails = ap (λ (t : ℕ). t / (8 * ring.seg)) h.tail_is in
    let laps : ring.tail / (8 * ring.seg) ≤ 2 ^ 53 = div-le_of_le-mul (8 * ring.seg) (omega arith) in
    omega arith

-- ---- the end

-- when all writers have left, as many units wrapped as of any log of this schedule
pub wraps_at_end : (seg : ℕ) (order : Option ℕ) (feeds : List Log) (ring : RingState) (writers : List (Option Log)) (active : ℕ) (drawn : Option ℕ) (log : Log) → HaveWritten seg order feeds ring writers active drawn → active ≡ 0 → IsUnread order feeds log
    → ring.wraps ≡ count_wraps seg log
wraps_at_end seg order feeds ring writers active drawn log h none written =
    let count = h.counted in
    let done : 0 ≡ count_turns writers = dite (dec_lt 0 (count_turns writers)) (λ l. let some = some_left writers l in absurd (omega arith)) (λ n. omega arith) in
    let same : h.log ≡ log = sym (append-nil h.log) ∙ ap (λ (n : ℕ). h.log ++ put_in n drawn writers) done ∙ h.whole ∙ sym written in
    h.at.in_ring.wraps_are ∙ (ap (λ (g : ℕ). count_wraps g h.log) h.seg_is ∙ ap (count_wraps seg) same)

-- where there are no listings nothing is put, and the counters come to nothing
pub no_values : (listings : List Listing) (seg : ℕ) (order : Option ℕ) (log : Log) → length listings ≡ 0 → IsUnread order (map (λ (l : Listing). l.units) listings) log → replicate counter_count 0 ≡ counter_values listings (count_wraps seg log)
no_values [] seg order log none unread = ap (λ (l : Log). counter_values [] (count_wraps seg l)) (sym unread)
no_values (l ∷ listings) seg order log none unread = absurd (omega arith)
