-- A ring stands for its log, when it is new and after a put.
use Rattle.std.proofs.Common.{ltb, true, false, not, if◌then◌else◌, Bool, ◌≡◌, ℕ, ◌+◌, ◌*◌, ◌/◌, ◌<◌, ◌≤◌, List, [], ◌∷◌, ◌++◌, length, get_or, sym, refl, ap, ◌∙◌, subst, arith, length-append}
use Rattle.std.proofs.lemmas.Nat.{div_below}
use Rattle.vsl_record.specs.Unit.{LogUnit, Log}
use Rattle.vsl_record.specs.Words.{IsUnit, unit_words}
use Rattle.vsl_record.proofs.Steps.{all_append}
use Rattle.ring_layout.specs.Places.{IsSegment, last_tail, stays, start_at, end_at, tail_from, tail, AreFit, end_mark}
use Rattle.ring_layout.specs.Content.{HoldsLog, HoldsNumbers}
use Rattle.ring_layout.proofs.AgreedLemmas.{div_up}
use Rattle.ring_layout.proofs.TakenLemmas.{start_above}
use Rattle.ring_layout.proofs.NumberedLemmas.{empty_numbers, IsNumbered, numbers_put}
use Rattle.ring_layout.proofs.PushLemmas.{tail_push}
use Rattle.ring_layout.proofs.StartLemmas.{empty_holds}
use Rattle.ring_plain.specs.Ring.{RingState, IsRingOf, wraps_from, count_wraps}
use Rattle.ring_plain.specs.inside.Stores.{with_kept, starts_with, numbers_with, words_with, ring_with}
use Rattle.ring_plain.proofs.PutLemmas.{put_holds}
use Rattle.ring_plain.proofs.ListLemmas.{length-set_if, put_stored, put_numbered, length-words_with}

zero_div : (n : ℕ) → 0 < n → 0 / n ≡ 0
zero_div n pos = let b : 0 / n < 1 = div_below 0 n 1 pos (omega arith) in omega arith

pub new_log : (ring : RingState) → IsSegment ring.seg → length ring.starts ≡ 8 → length ring.numbers ≡ 8 → length ring.words ≡ 8 * ring.seg → ring.tail ≡ 0 → ring.counter ≡ 0 → ring.wraps ≡ 0 → ring.units ≡ 0 → get_or ring.starts 0 0 ≡ 0 → get_or ring.numbers 0 0 ≡ 0 → get_or ring.words 0 0 ≡ end_mark → IsRingOf ring []
new_log ring segment eight eight_numbers lap tail_is counter_is wraps_are units_are start number mark =
    let z = zero_div ring.seg (omega arith) in
    record {
      segment = segment;
      eight = eight;
      eight_numbers = eight_numbers;
      units_are = units_are;
      lap = lap;
      are_units = tt;
      fit = tt;
      tail_is = tail_is;
      low = omega arith;
      counter_is = counter_is ∙ (sym z ∙ ap (λ (k : ℕ). k / ring.seg) (sym tail_is));
      wraps_are = wraps_are;
      holds = subst (λ (c : ℕ). HoldsLog unit_words ring.seg [] c (λ i. get_or ring.starts i 0) (λ i. get_or ring.words i 0)) (sym counter_is) (empty_holds unit_words ring.seg (omega arith) (λ i. get_or ring.starts i 0) (λ i. get_or ring.words i 0) start mark);
      holds_numbers = subst (λ (c : ℕ). HoldsNumbers unit_words ring.seg [] c (λ i. get_or ring.numbers i 0)) (sym counter_is) (empty_numbers unit_words ring.seg (omega arith) (λ i. get_or ring.numbers i 0) number z);
    }

fit_push : (seg : ℕ) (log : Log) (u : LogUnit) → AreFit unit_words seg log → length (unit_words u) ≤ seg → AreFit unit_words seg (log ++ u ∷ [])
fit_push seg [] u fit l = ((omega arith, l), tt)
fit_push seg (v ∷ log) u fit l = (fit.0, fit_push seg log u fit.1 l)

-- what the ring holds once the unit was put at the tail t, where the counter was c
abbrev Stored : ℕ → ℕ → RingState → Log → LogUnit → Type 0
Stored t c ring log u = HoldsLog unit_words ring.seg (log ++ u ∷ []) (end_at ring.seg t (length (unit_words u)) / ring.seg)
    (λ i. get_or (starts_with ring.seg c t (length (unit_words u)) ring.starts) i 0)
    (λ i. get_or (words_with ring.seg t (unit_words u) ring.words) i 0)

abbrev Numbered : ℕ → ℕ → RingState → Log → LogUnit → Type 0
Numbered t c ring log u = HoldsNumbers unit_words ring.seg (log ++ u ∷ []) (end_at ring.seg t (length (unit_words u)) / ring.seg) (λ i. get_or (numbers_with ring.seg c t (length (unit_words u)) ring.units ring.numbers) i 0)

-- how many units wrap where one stays in its lap, or doesn't
abbrev wrap_of : Bool → ℕ
wrap_of stay = if stay then 0 else 1

one_more : (stay : Bool) (n : ℕ) → (if not stay then n + 1 else n) ≡ n + wrap_of stay
one_more true n = omega arith
one_more false n = refl

-- one unit more wraps where it doesn't stay in the lap of the tail
pub wraps_push : (seg t : ℕ) (log : Log) (u : LogUnit) → wraps_from seg t (log ++ u ∷ []) ≡ wraps_from seg t log + wrap_of (stays seg (tail_from unit_words seg t log) (length (unit_words u)))
wraps_push seg t [] u = omega arith
wraps_push seg t (v ∷ log) u =
    let more = wraps_push seg (end_at seg t (length (unit_words v))) log u in
    omega arith

pub put_log : (ring : RingState) (log : Log) (u : LogUnit) → IsUnit u → length (unit_words u) ≤ ring.seg → end_at ring.seg ring.tail (length (unit_words u)) ≤ last_tail → IsRingOf ring log → IsRingOf (ring_with ring u) (log ++ u ∷ [])
put_log ring log u is_unit fits upto h =
    let seg : ℕ = ring.seg in
    let w : ℕ = length (unit_words u) in
    let t : ℕ = tail unit_words seg log in
    let pos : 0 < seg = (let s = h.segment in omega arith) in
    let counter : ring.counter ≡ t / seg = h.counter_is ∙ ap (λ (z : ℕ). z / seg) h.tail_is in
    let was = subst (λ (c : ℕ). HoldsLog unit_words seg log c (λ i. get_or ring.starts i 0) (λ i. get_or ring.words i 0)) counter h.holds in
    let stored : Stored t (t / seg) ring log u = put_holds unit_words seg pos log u _ _ _ _ h.fit (omega arith) fits was (put_stored unit_words seg t u ring.starts ring.words pos fits h.eight h.lap) in
    let inner : List ℕ = with_kept seg ring.counter (end_at seg ring.tail w) (end_at seg ring.tail w) ring.starts in
    let inner_numbers : List ℕ = with_kept seg ring.counter (end_at seg ring.tail w) (ring.units + 1) ring.numbers in
    let had = subst (λ (c : ℕ). HoldsNumbers unit_words seg log c (λ i. get_or ring.numbers i 0)) counter h.holds_numbers in
    let above = start_above seg t w pos in
    let up = div_up seg t (end_at seg t w) pos (omega arith) in
    let numbered : Numbered t (t / seg) ring log u = numbers_put unit_words seg pos log u _ _ h.fit fits up had (subst (λ (n : ℕ). IsNumbered unit_words seg pos t n u (λ i. get_or ring.numbers i 0) (λ i. get_or (numbers_with seg (t / seg) t w ring.units ring.numbers) i 0)) h.units_are (put_numbered unit_words seg pos t ring.units u ring.numbers fits h.eight_numbers)) in
    record {
      segment = h.segment;
      eight = length-set_if (ltb ring.counter (start_at seg ring.tail w / seg)) inner _ _ ∙ (length-set_if (ltb ring.counter (end_at seg ring.tail w / seg)) ring.starts _ _ ∙ h.eight);
      eight_numbers = length-set_if (ltb ring.counter (start_at seg ring.tail w / seg)) inner_numbers _ _ ∙ (length-set_if (ltb ring.counter (end_at seg ring.tail w / seg)) ring.numbers _ _ ∙ h.eight_numbers);
      units_are = (let n = h.units_are in omega (arith, length-append log (u ∷ [])));
      lap = length-words_with seg ring.tail (unit_words u) ring.words pos fits h.lap;
      are_units = all_append IsUnit log (u ∷ []) h.are_units (is_unit, tt);
      fit = fit_push seg log u h.fit fits;
      tail_is = ap (λ (z : ℕ). end_at seg z w) h.tail_is ∙ sym (tail_push unit_words seg log u);
      low = upto;
      counter_is = refl;
      wraps_are = one_more (stays seg ring.tail w) ring.wraps ∙ (ap (λ (z : ℕ). z + wrap_of (stays seg ring.tail w)) h.wraps_are
          ∙ (ap (λ (z : ℕ). count_wraps seg log + wrap_of (stays seg z w)) h.tail_is ∙ sym (wraps_push seg 0 log u)));
      holds = subst (λ (z : ℕ). Stored z ring.counter ring log u) (sym h.tail_is) (subst (λ (c : ℕ). Stored t c ring log u) (sym counter) stored);
      holds_numbers = subst (λ (z : ℕ). Numbered z ring.counter ring log u) (sym h.tail_is) (subst (λ (c : ℕ). Numbered t c ring log u) (sym counter) numbered);
    }
