-- What a cursor finds where a unit is due.
use Rattle.std.proofs.Common.{◌≡◌, ◌≢◌, ◌⊎◌, ℕ, zero, suc, ◌+◌, ◌*◌, ◌/◌, ◌%◌, ◌<◌, ◌≤◌, Bool, false, cond, List, [], ◌∷◌, ◌++◌, length, take, drop, get_or, slice_get, sym, ap, ◌∙◌, subst, ⊎_elim, inl, inr, arith, Some, eq-eqb, ne_eqb, le-ltb, take_all, ext_get_or}
use Rattle.std.specs.List.{AllByRecursion}
use Rattle.std.proofs.lemmas.List.{length-take-le, length-drop, get_or-take, get_or-drop}
use mathlib.Core.Logic.{dite}
use native.Mathlib.Decide.{dec_lt}
use Rattle.vsl_record.specs.Unit.{LogUnit, Log}
use Rattle.vsl_record.specs.Words.{IsUnit, unit_words, header_mark}
use Rattle.ring_layout.specs.Places.{last_tail, stays, start_at, end_at, tail_from, tail, word_at, end_mark, wrap_mark}
use Rattle.ring_layout.specs.History.{UnitStarts}
use Rattle.ring_layout.specs.Copied.{IsDueAt}
use Rattle.ring_layout.proofs.EntriesLemmas.{at_stay, at_wrap}
use Rattle.ring_layout.proofs.TakenLemmas.{start_above}
use Rattle.ring_layout.proofs.AgreedLemmas.{div_up, tail_above}
use Rattle.ring_layout.proofs.ReadingLemmas.{wrap_word, end_word}
use Rattle.ring_layout.proofs.ItemsLemmas.{next_place}
use Rattle.ring_layout.proofs.CopiesLemmas.{some_is, around, there, has_word, unit_word}
use Rattle.ring_plain.specs.Ring.{RingState, IsRingOf}
use Rattle.ring_plain.specs.inside.Due.{unit_place, IsUnitAt}
use Rattle.ring_layout.proofs.LapLemmas.{in_lap, in_stretch}

kth_of : {X : Type 0} (P : X → Type 0) (xs : List X) (k : ℕ) (x : X) → AllByRecursion P xs → slice_get xs k ≡ Some x → P x
kth_of P [] k x all e = cc e
kth_of P (y ∷ xs) zero x all e = subst P (some_is e) all.0
kth_of P (y ∷ xs) (suc k) x all e = kth_of P xs k x all.1 e

tail_of_some : {U : Type 0} (words : U → List ℕ) (seg : ℕ) → 0 < seg → (t k : ℕ) (us : List U) → tail_from words seg t (take k us) ≤ tail_from words seg t us
tail_of_some words seg pos t zero us = tail_above words seg pos t us
tail_of_some words seg pos t (suc k) [] = omega arith
tail_of_some words seg pos t (suc k) (u ∷ us) = tail_of_some words seg pos (end_at seg t (length (words u))) k us

-- words that are those of a list one by one
stretch_is : (i : ℕ) (new ring : List ℕ) → i + length new ≤ length ring → ((j : ℕ) → j < length new → get_or ring (i + j) 0 ≡ get_or new j 0) → take (length new) (drop i ring) ≡ new
stretch_is i new ring room same =
    let size : length (take (length new) (drop i ring)) ≡ length new = length-take-le (length new) (drop i ring) (let d = length-drop i ring in omega arith) in
    ext_get_or 0 (take (length new) (drop i ring)) new size (λ j l. get_or-take (length new) (drop i ring) j 0 (omega arith) ∙ (get_or-drop i ring j 0 ∙ same j (omega arith)))

module _ (ring : RingState) (log : Log) (k : ℕ) (of_log : IsRingOf ring log) where
  abbrev word : ℕ → ℕ
  word i = get_or ring.words i 0

  positive : 0 < ring.seg
  positive = let s = of_log.segment in omega arith

  -- the k-th unit starts at its place
  abbrev StartsAt : LogUnit → ℕ → Type 0
  StartsAt u p = p ≡ start_at ring.seg (tail unit_words ring.seg (take k log)) (length (unit_words u))

  kth_word : (u : LogUnit) (p j : ℕ) → slice_get log k ≡ Some u → StartsAt u p → ring.counter < p / ring.seg + 8 → j < length (unit_words u) → word ((p + j) % (8 * ring.seg)) ≡ get_or (unit_words u) j 0
  kth_word u p j e at near l = unit_word unit_words ring.seg positive log ring.counter k p j u (λ i. get_or ring.starts i 0) word of_log.holds e at l near

  -- its first word counts its words
  kth_head : (u : LogUnit) (p : ℕ) → slice_get log k ≡ Some u → StartsAt u p → ring.counter < p / ring.seg + 8 → word (p % (8 * ring.seg)) ≡ header_mark + length (unit_words u)
  kth_head u p e at near = ap (λ (z : ℕ). word (z % (8 * ring.seg))) (omega arith) ∙ (kth_word u p 0 e at near (omega arith) ∙ omega arith)

  kth_unit : (u : LogUnit) (p : ℕ) → slice_get log k ≡ Some u → StartsAt u p → ring.counter < p / ring.seg + 8 → IsUnitAt ring log k p (length (unit_words u))
  kth_unit u p e at near =
      let w : ℕ = length (unit_words u) in
      let sized = has_word unit_words ring.seg log k u of_log.fit e in
      let t : ℕ = tail unit_words ring.seg (take k log) in
      let inside : p % (8 * ring.seg) + w < 8 * ring.seg = subst (λ (z : ℕ). z % (8 * ring.seg) + w < 8 * ring.seg) (sym at) (in_stretch ring.seg t w positive sized.1) in
      let behind : p + w ≡ tail unit_words ring.seg (take (k + 1) log) = ap (λ (z : ℕ). z + w) at ∙ sym (next_place unit_words ring.seg log k u e) in
      let upto = tail_of_some unit_words ring.seg positive 0 (k + 1) log in
      record {
        unit = u;
        kth = e;
        fits = sized.1;
        inside = omega arith;
        low = let a = of_log.tail_is in let b = of_log.low in omega arith;
        behind = behind;
        spells = record {
          unit = kth_of IsUnit log k u of_log.are_units e;
          spelled = stretch_is (p % (8 * ring.seg)) (unit_words u) ring.words (let a = of_log.lap in omega arith)
              (λ j l. ap (λ (z : ℕ). word z) (sym (in_lap p j (8 * ring.seg) (omega arith))) ∙ kth_word u p j e at near l);
        };
      }

  -- the k-th unit starts where the ring says for the place p, or the log ends there
  abbrev Found : ℕ → Type 0
  Found p = ((u : LogUnit) × (slice_get log k ≡ Some u) × StartsAt u (unit_place ring p) × (p ≤ unit_place ring p)) ⊎ ((k ≡ length log) × (unit_place ring p ≡ p) × (word (p % (8 * ring.seg)) ≡ end_mark))

  here : (p : ℕ) → word (p % (8 * ring.seg)) ≢ wrap_mark → unit_place ring p ≡ p
  here p ne = ap (λ (b : Bool). cond b ((p / (8 * ring.seg) + 1) * (8 * ring.seg)) p) (ne_eqb (word (p % (8 * ring.seg))) wrap_mark ne)

  next_lap : (p : ℕ) → word (p % (8 * ring.seg)) ≡ wrap_mark → unit_place ring p ≡ (p / (8 * ring.seg) + 1) * (8 * ring.seg)
  next_lap p e = ap (λ (b : Bool). cond b ((p / (8 * ring.seg) + 1) * (8 * ring.seg)) p) (eq-eqb (word (p % (8 * ring.seg))) wrap_mark e)

  found_start : (u : LogUnit) (p : ℕ) → slice_get log k ≡ Some u → StartsAt u p → ring.counter < p / ring.seg + 8 → Found p
  found_start u p e at near =
      let head = kth_head u p e at near in
      let same = here p (omega arith) in
      inl (u, e, same ∙ at, omega arith)

  found : (p : ℕ) → IsDueAt unit_words ring.seg log k p → ring.counter < p / ring.seg + 8 → Found p
  found p due near = ⊎_elim
      (λ (at : p ≡ tail unit_words ring.seg (take k log)). dite (dec_lt k (length log))
      (λ l. let u = there log k l in let w : ℕ = length (unit_words u.0) in dite (dec_lt (p % (8 * ring.seg) + w) (8 * ring.seg))
      (λ stay. found_start u.0 p u.1 (sym (ap (λ (z : ℕ). start_at ring.seg z w) (sym at) ∙ at_stay ring.seg p w stay)) near)
      (λ far.
      let leaves : stays ring.seg p w ≡ false = le-ltb (p % (8 * ring.seg) + w) (8 * ring.seg) (omega arith) in
      let mark : word (p % (8 * ring.seg)) ≡ wrap_mark = of_log.holds.word_at p wrap_mark
      (ap (λ z. word_at unit_words ring.seg z p) (around log k u.0 u.1) ∙ (ap (word_at unit_words ring.seg (take k log ++ u.0 ∷ drop (k + 1) log)) at
      ∙ wrap_word unit_words ring.seg positive (take k log) (drop (k + 1) log) u.0 (ap (λ (z : ℕ). stays ring.seg z w) (sym at) ∙ leaves))) near in
      let next : unit_place ring p ≡ start_at ring.seg p w = next_lap p mark ∙ sym (at_wrap ring.seg p w (omega arith)) in
      let above = start_above ring.seg p w positive in
      inl (u.0, u.1, next ∙ ap (λ (z : ℕ). start_at ring.seg z w) at, omega arith)))
      (λ g.
      let whole : k ≡ length log = (let a = due.0 in omega arith) in
      let mark : word (p % (8 * ring.seg)) ≡ end_mark = of_log.holds.word_at p end_mark
      (ap (word_at unit_words ring.seg log) (at ∙ ap (tail unit_words ring.seg) (take_all k log (omega arith))) ∙ end_word unit_words ring.seg positive log) near in
      inr (whole, here p (omega arith), mark)))
      (λ (s : UnitStarts unit_words ring.seg log k p). found_start s.0 p s.1 s.2 near)
      due.1

  -- a place that is due is none above the last
  pub due_low : (p : ℕ) → IsDueAt unit_words ring.seg log k p → p ≤ last_tail
  due_low p due =
      let a = of_log.tail_is in
      let b = of_log.low in
      ⊎_elim
      (λ (at : p ≡ tail unit_words ring.seg (take k log)). let upto = tail_of_some unit_words ring.seg positive 0 k log in omega arith)
      (λ (s : UnitStarts unit_words ring.seg log k p).
      let upto = tail_of_some unit_words ring.seg positive 0 (k + 1) log in
      let at = s.2 in
      let behind = next_place unit_words ring.seg log k s.0 s.1 in
      omega arith)
      due.1

  -- the end mark stands where the log ends
  pub found_end : (p start head : ℕ) → IsDueAt unit_words ring.seg log k p → ring.counter < p / ring.seg + 6 → start ≡ unit_place ring p → head ≡ word (start % (8 * ring.seg)) → head ≡ end_mark → k ≡ length log
  found_end p start head due near start_is head_is mark = ⊎_elim
      (λ (f : (u : LogUnit) × (slice_get log k ≡ Some u) × StartsAt u (unit_place ring p) × (p ≤ unit_place ring p)).
      let above = f.3 in
      let up = div_up ring.seg p start positive (omega arith) in
      let first = kth_head f.0 start f.1 (start_is ∙ f.2) (omega arith) in
      absurd (omega arith))
      (λ (f : (k ≡ length log) × (unit_place ring p ≡ p) × (word (p % (8 * ring.seg)) ≡ end_mark)). f.0)
      (found p due (omega arith))

  -- and else the header of the unit
  pub found_unit : (p start head : ℕ) → IsDueAt unit_words ring.seg log k p → ring.counter < p / ring.seg + 6 → start ≡ unit_place ring p → head ≡ word (start % (8 * ring.seg)) → head ≢ end_mark → IsUnitAt ring log k start (head % 16777216)
  found_unit p start head due near start_is head_is ne = ⊎_elim
      (λ (f : (u : LogUnit) × (slice_get log k ≡ Some u) × StartsAt u (unit_place ring p) × (p ≤ unit_place ring p)).
      let above = f.3 in
      let up = div_up ring.seg p start positive (omega arith) in
      let first = kth_head f.0 start f.1 (start_is ∙ f.2) (omega arith) in
      let unit = kth_of IsUnit log k f.0 of_log.are_units f.1 in
      let few = unit.size in
      let count : length (unit_words f.0) ≡ head % 16777216 = omega arith in
      subst (IsUnitAt ring log k start) count (kth_unit f.0 start f.1 (start_is ∙ f.2) (omega arith)))
      (λ (f : (k ≡ length log) × (unit_place ring p ≡ p) × (word (p % (8 * ring.seg)) ≡ end_mark)).
      absurd (ne (head_is ∙ (ap (λ (z : ℕ). word (z % (8 * ring.seg))) (start_is ∙ f.1) ∙ f.2))))
      (found p due (omega arith))
