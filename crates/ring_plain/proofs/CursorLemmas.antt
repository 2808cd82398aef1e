-- Where a cursor stands after a unit was taken, and after it sought.
use Rattle.std.proofs.Common.{◌≡◌, ℕ, ◌+◌, ◌-◌, ◌*◌, ◌/◌, ◌%◌, ◌<◌, ◌≤◌, List, [], ◌∷◌, ◌++◌, length, take, drop, get_or, sym, ap, ◌∙◌, subst, ⊎_elim, inl, inr, arith, Some, None, length-append}
use Rattle.std.proofs.lemmas.List.{take-append-le}
use Rattle.vsl_record.specs.Unit.{LogUnit, Log}
use Rattle.vsl_record.specs.Words.{unit_words}
use Rattle.vsl_record.specs.Views.{Spells}
use Rattle.ring_layout.specs.Places.{last_tail, tail, segment_start}
use Rattle.ring_layout.specs.History.{first_number, UnitStarts}
use Rattle.ring_layout.specs.Copied.{IsDueAt}
use Rattle.ring_layout.proofs.EntriesLemmas.{start_there}
use Rattle.ring_layout.proofs.TakenLemmas.{get_inside, starts_stays}
use Rattle.ring_layout.proofs.ReadingLemmas.{start_leads}
use Rattle.ring_layout.proofs.ItemsLemmas.{below_few}
use Rattle.ring_layout.proofs.NumberLemmas.{units_short}
use Rattle.ring_plain.specs.Ring.{RingState, IsRingOf}
use Rattle.ring_plain.specs.Cursor.{CursorState, Stands, TookUnit, StandsAtStart}
use Rattle.ring_plain.specs.inside.Due.{IsUnitAt}

-- a cursor stands where it stood in a log with one unit more
pub stands_longer : (cursor : CursorState) (log : Log) (u : LogUnit) (k : ℕ) → 0 < cursor.seg → Stands cursor log k → Stands cursor (log ++ u ∷ []) k
stands_longer cursor log u k pos stands =
    let below = stands.due.0 in
    record {
      not_lost = stands.not_lost;
      number = stands.number;
      due = (
        omega (arith, length-append log (u ∷ [])),
        ⊎_elim
            (λ (at : cursor.place ≡ tail unit_words cursor.seg (take k log)). inl (at ∙ sym (ap (tail unit_words cursor.seg) (take-append-le k log (u ∷ []) below))))
            (λ (at : UnitStarts unit_words cursor.seg log k cursor.place). inr (starts_stays unit_words cursor.seg pos log u k cursor.place at))
            stands.due.1,
      );
    }

-- a log has no more units than words, so no number of a unit is above the last tail
pub number_low : (ring : RingState) (log : Log) (k : ℕ) → IsRingOf ring log → k ≤ length log → k ≤ last_tail
number_low ring log k of_log below =
    let short = units_short unit_words ring.seg (let z = of_log.segment in omega arith) 0 log of_log.fit in
    let at = of_log.tail_is in
    let low = of_log.low in
    omega arith

-- the same place, by other names
pub due_as : (log : Log) (k seg seg' p p' : ℕ) → seg ≡ seg' → p ≡ p' → IsDueAt unit_words seg log k p → IsDueAt unit_words seg' log k p'
due_as log k seg seg' p p' s q due = subst (λ (z : ℕ). IsDueAt unit_words seg' log k z) q (subst (λ (z : ℕ). IsDueAt unit_words z log k p) s due)

-- a cursor that copied the k-th unit, and stands behind it, took it
pub took : (ring : RingState) (cursor : CursorState) (log : Log) (k place count : ℕ) → cursor.seg ≡ ring.seg → cursor.lost ≡ None → cursor.place ≡ place + count → cursor.words ≡ take count (drop (place % (8 * ring.seg)) ring.words)
    → cursor.taken ≡ k → cursor.number ≡ k + 1 → IsUnitAt ring log k place count → TookUnit cursor log k
took ring cursor log k place count shape free behind copied taken number at =
    let stands : cursor.place ≡ tail unit_words cursor.seg (take (k + 1) log) = behind ∙ (at.behind ∙ ap (λ (g : ℕ). tail unit_words g (take (k + 1) log)) (sym shape)) in
    let inside = get_inside log k at.unit at.kth in
    record {
      unit = at.unit;
      kth = at.kth;
      spells = subst (λ (ws : List ℕ). Spells ws at.unit) (sym copied) at.spells;
      number = taken;
      stands = record { not_lost = free; number = number; due = (omega arith, inl stands) };
      place = stands;
    }

-- a cursor at what the ring keeps as the start of the segment four behind
pub sought : (ring : RingState) (cursor : CursorState) (log : Log) → IsRingOf ring log → ring.seg ≡ cursor.seg → cursor.lost ≡ None → cursor.place ≡ get_or ring.starts ((ring.counter - 4) % 8) 0 → cursor.number ≡ get_or ring.numbers ((ring.counter - 4) % 8) 0 → StandsAtStart cursor log (ring.counter - 4)
sought ring cursor log of_log shape free place_is number_is =
    let s : ℕ = ring.counter - 4 in
    let pos : 0 < ring.seg = (let z = of_log.segment in omega arith) in
    let at_tail : ring.counter ≡ tail unit_words ring.seg log / ring.seg = of_log.counter_is ∙ ap (λ (t : ℕ). t / ring.seg) of_log.tail_is in
    let there = start_there unit_words ring.seg log s pos of_log.fit (omega arith) in
    let kept : get_or ring.starts (s % 8) 0 ≡ there.0 = of_log.holds.segment_starts s there.0 (omega arith) (omega arith) there.1 in
    let few = below_few unit_words ring.seg 0 log (s * ring.seg) in
    let due : IsDueAt unit_words ring.seg log (first_number unit_words ring.seg log s) there.0 = (few, start_leads unit_words ring.seg pos log s there.0 of_log.fit there.1) in
    let same : there.0 ≡ cursor.place = sym (place_is ∙ kept) in
    record {
      start = subst (λ (g : ℕ). segment_start unit_words g log s ≡ Some cursor.place) shape (there.1 ∙ ap Some same);
      stands = record {
        not_lost = free;
        number = number_is ∙ (of_log.holds_numbers s (omega arith) (omega arith) ∙ ap (λ (g : ℕ). first_number unit_words g log s) shape);
        due = subst (λ (g : ℕ). IsDueAt unit_words g log (first_number unit_words g log s) cursor.place) shape (subst (IsDueAt unit_words ring.seg log (first_number unit_words ring.seg log s)) same due);
      };
    }
