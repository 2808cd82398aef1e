-- The words and the starts of a ring where a unit was put, one by one.
use Rattle.std.proofs.Common.{rules, ◌≡◌, ◌≢◌, ℕ, ◌+◌, ◌-◌, ◌*◌, ◌/◌, ◌%◌, ◌<◌, ◌≤◌, Bool, true, false, cond, not, eqb, ltb, List, [], ◌∷◌, length, get_or, set, refl, sym, ap, ◌∙◌, ⊎_elim, arith, Some, eq-eqb, ne_eqb, lt-ltb, ltb-true, ltb-false, eqb-true, mod-lt, le_refl, length-set, get_or-set_same, get_or-set_other}
use Rattle.std.proofs.lemmas.List.{places}
use mathlib.Core.Logic.{dite}
use native.Mathlib.Decide.{ℕ_discrete, dec_lt}
use Rattle.std.specs.Option.{option_or}
use Rattle.ring_layout.specs.Places.{stays, start_at, end_at, if_some, first_in, end_mark, wrap_mark}
use Rattle.ring_layout.proofs.EntriesLemmas.{two_ahead, entered}
use Rattle.ring_layout.proofs.LapLemmas.{in_lap, wrap_first, in_stretch}
use Rattle.ring_layout.proofs.TakenLemmas.{start_above}
use Rattle.ring_layout.proofs.AgreedLemmas.{free_place, free_segment, div_up, or_some, if_true, some_same}
use Rattle.ring_layout.specs.Stretch.{with_words}
use Rattle.ring_layout.specs.inside.Numbers.{entered_number}
use Rattle.ring_layout.proofs.NumberedLemmas.{IsNumbered}
use Rattle.ring_plain.specs.inside.Stores.{with_kept, starts_with, numbers_with, with_wrap, words_with}
use Rattle.ring_plain.proofs.PutLemmas.{IsPut}

-- ---- an element that is set under a test

set_here : (b : Bool) (xs : List ℕ) (k x : ℕ) → b ≡ true → k < length xs → get_or (cond b (set xs k x) xs) k 0 ≡ x
set_here true xs k x e l = get_or-set_same xs k x 0 l
set_here false xs k x e l = cc e

set_else : (b : Bool) (xs : List ℕ) (k x j : ℕ) → (b ≡ true → j ≢ k) → get_or (cond b (set xs k x) xs) j 0 ≡ get_or xs j 0
set_else true xs k x j ne = get_or-set_other xs k j x 0 (ne refl)
set_else false xs k x j ne = refl

pub length-set_if : (b : Bool) (xs : List ℕ) (k x : ℕ) → length (cond b (set xs k x) xs) ≡ length xs
length-set_if true xs k x = length-set xs k x
length-set_if false xs k x = refl

-- ---- words from a place on, and one behind them

module _ (i x : ℕ) (new words : List ℕ) (room : i + length new < length words) where
  length-stored : length (set (with_words i new words) (i + length new) x) ≡ length words
  length-stored = search (rules, places, length-set)

  new_at : (j : ℕ) → j < length new → get_or (set (with_words i new words) (i + length new) x) (i + j) 0 ≡ get_or new j 0
  new_at j l = search (rules, places, get_or-set_other)

  behind_at : get_or (set (with_words i new words) (i + length new) x) (i + length new) 0 ≡ x
  behind_at = search (rules, places, get_or-set_same)

  else_at : (k : ℕ) → ((j : ℕ) → j ≤ length new → k ≢ i + j) → get_or (set (with_words i new words) (i + length new) x) k 0 ≡ get_or words k 0
  else_at k ne = dite (dec_lt k i)
      (λ l. search (rules, places, get_or-set_other))
      (λ g. dite (dec_lt (i + length new) k) (λ l. search (rules, places, get_or-set_other)) (λ m. absurd (ne (k - i) (omega arith) (omega arith))))

-- ---- the words of a ring

module _ (seg t : ℕ) (new words : List ℕ) (pos : 0 < seg) (fits : length new ≤ seg) (wide : length words ≡ 8 * seg) where
  abbrev first : ℕ
  first = start_at seg t (length new) % (8 * seg)

  abbrev wrapped : List ℕ
  wrapped = with_wrap seg t (length new) words

  room : first + length new < length wrapped
  room = let a = in_stretch seg t (length new) pos fits in let b = length-set_if (not (stays seg t (length new))) words (t % (8 * seg)) wrap_mark in omega arith

  pub length-words_with : length (words_with seg t new words) ≡ 8 * seg
  length-words_with = length-stored first end_mark new wrapped room ∙ (length-set_if (not (stays seg t (length new))) words (t % (8 * seg)) wrap_mark ∙ wide)

  at : (j : ℕ) → j ≤ length new → (start_at seg t (length new) + j) % (8 * seg) ≡ first + j
  at j l = let a = in_stretch seg t (length new) pos fits in in_lap (start_at seg t (length new)) j (8 * seg) (omega arith)

  unit_there : (j : ℕ) → j < length new → get_or (words_with seg t new words) ((start_at seg t (length new) + j) % (8 * seg)) 0 ≡ get_or new j 0
  unit_there j l = ap (λ (z : ℕ). get_or (words_with seg t new words) z 0) (at j (omega arith)) ∙ new_at first end_mark new wrapped room j l

  end_there : get_or (words_with seg t new words) (end_at seg t (length new) % (8 * seg)) 0 ≡ end_mark
  end_there = ap (λ (z : ℕ). get_or (words_with seg t new words) z 0) (at (length new) (le_refl (length new))) ∙ behind_at first end_mark new wrapped room

  wrap_there : stays seg t (length new) ≡ false → get_or (words_with seg t new words) (t % (8 * seg)) 0 ≡ wrap_mark
  wrap_there e =
      let far : 8 * seg ≤ t % (8 * seg) + length new = ltb-false (t % (8 * seg) + length new) (8 * seg) e in
      let zero = wrap_first seg t (length new) pos far in
      let below : t % (8 * seg) < 8 * seg = mod-lt t (omega arith) in
      else_at first end_mark new wrapped room (t % (8 * seg)) (λ j l. omega arith) ∙ set_here (not (stays seg t (length new))) words (t % (8 * seg)) wrap_mark (ap not e) (omega arith)

  -- a place before the tail keeps its word, unless the put came around to its segment
  others_there : (q : ℕ) → q < t → end_at seg t (length new) / seg < q / seg + 8 → get_or (words_with seg t new words) (q % (8 * seg)) 0 ≡ get_or words (q % (8 * seg)) 0
  others_there q below near =
      let st : ℕ = start_at seg t (length new) in
      let above = start_above seg t (length new) pos in
      let free : (p : ℕ) → q < p → p ≤ end_at seg t (length new) → q % (8 * seg) ≢ p % (8 * seg) = λ p l m. free_place seg q p pos l (let z = div_up seg p (end_at seg t (length new)) pos m in omega arith) in
      else_at first end_mark new wrapped room (q % (8 * seg)) (λ j l e. free (st + j) (omega arith) (omega arith) (e ∙ sym (at j l)))
      ∙ set_else (not (stays seg t (length new))) words (t % (8 * seg)) wrap_mark (q % (8 * seg)) (λ _. free t below (omega arith))

-- ---- the starts of segments

kept_there : (seg c p x s : ℕ) (kept : List ℕ) → length kept ≡ 8 → c < s → p / seg ≡ s → get_or (with_kept seg c p x kept) (s % 8) 0 ≡ x
kept_there seg c p x s kept eight above e =
    let below : p / seg % 8 < 8 = mod-lt (p / seg) (omega arith) in
    ap (λ (z : ℕ). get_or (with_kept seg c p x kept) (z % 8) 0) (sym e) ∙ set_here (ltb c (p / seg)) kept (p / seg % 8) x (lt-ltb c (p / seg) (omega arith)) (omega arith)

kept_else : (seg c p x s : ℕ) (kept : List ℕ) → (c < p / seg → s % 8 ≢ p / seg % 8) → get_or (with_kept seg c p x kept) (s % 8) 0 ≡ get_or kept (s % 8) 0
kept_else seg c p x s kept ne = set_else (ltb c (p / seg)) kept (p / seg % 8) x (s % 8) (λ e. ne (ltb-true c (p / seg) e))

-- two numbers are kept for a unit: what lies at other segments stays
kept_others : (seg t w x y s : ℕ) (kept : List ℕ) → 0 < seg → s ≤ t / seg → end_at seg t w / seg < s + 8 → get_or (with_kept seg (t / seg) (start_at seg t w) x (with_kept seg (t / seg) (end_at seg t w) y kept)) (s % 8) 0 ≡ get_or kept (s % 8) 0
kept_others seg t w x y s kept pos below near =
    let st : ℕ = start_at seg t w in
    let n : ℕ = end_at seg t w in
    let up = div_up seg st n pos (omega arith) in
    kept_else seg (t / seg) st x s (with_kept seg (t / seg) n y kept) (λ l. free_segment s (st / seg) (omega arith) (omega arith)) ∙ kept_else seg (t / seg) n y s kept (λ l. free_segment s (n / seg) (omega arith) (omega arith))

module _ (seg t w : ℕ) (starts : List ℕ) (pos : 0 < seg) (fits : w ≤ seg) (eight : length starts ≡ 8) where
  abbrev kept : List ℕ
  kept = with_kept seg (t / seg) (end_at seg t w) (end_at seg t w) starts

  new_start : (s p : ℕ) → t / seg < s → first_in seg s (start_at seg t w ∷ end_at seg t w ∷ []) ≡ Some p → get_or (with_kept seg (t / seg) (start_at seg t w) (start_at seg t w) kept) (s % 8) 0 ≡ p
  new_start s p above e =
      let st : ℕ = start_at seg t w in
      let n : ℕ = end_at seg t w in
      let up = div_up seg st n pos (omega arith) in
      let two = two_ahead seg t w pos fits in
      let test : (b : Bool) → eqb (st / seg) s ≡ b → option_or (if_some b st) (first_in seg s (n ∷ [])) ≡ Some p = λ b q. ap (λ (z : Bool). option_or (if_some z st) (first_in seg s (n ∷ []))) (sym q) ∙ e in
      dite (ℕ_discrete (st / seg) s)
      (λ h. kept_there seg (t / seg) st st s kept (length-set_if (ltb (t / seg) (n / seg)) starts (n / seg % 8) n ∙ eight) above h ∙ some_same (test true (eq-eqb (st / seg) s h)))
      (λ ne. ⊎_elim
      (λ h. let i = if_true h in
      kept_else seg (t / seg) st st s kept (λ l x. free_segment (st / seg) s (omega arith) (let at = eqb-true (n / seg) s i.0 in omega arith) (sym x)) ∙ (kept_there seg (t / seg) n n s starts eight above (eqb-true (n / seg) s i.0) ∙ i.1))
      (λ h. cc h)
      (or_some (test false (ne_eqb (st / seg) s ne))))

-- ---- the numbers of their first units

module _ (seg t w n : ℕ) (numbers : List ℕ) (pos : 0 < seg) (fits : w ≤ seg) (eight : length numbers ≡ 8) where
  new_number : (s : ℕ) → t / seg < s → s ≤ end_at seg t w / seg → get_or (numbers_with seg (t / seg) t w n numbers) (s % 8) 0 ≡ entered_number seg n (start_at seg t w) s
  new_number s above upto =
      let st : ℕ = start_at seg t w in
      let end : ℕ = end_at seg t w in
      let kept : List ℕ = with_kept seg (t / seg) end (n + 1) numbers in
      let up = div_up seg st end pos (omega arith) in
      let two = two_ahead seg t w pos fits in
      dite (ℕ_discrete (st / seg) s)
      (λ h. kept_there seg (t / seg) st n s kept (length-set_if (ltb (t / seg) (end / seg)) numbers (end / seg % 8) (n + 1) ∙ eight) above h ∙ sym (ap (λ (b : Bool). cond b n (n + 1)) (eq-eqb (st / seg) s h)))
      (λ ne.
      let at : end / seg ≡ s = ⊎_elim (λ (z : st / seg ≡ s). absurd (ne z)) (λ (z : end / seg ≡ s). z) (entered seg t w s pos fits above upto) in
      kept_else seg (t / seg) st n s kept (λ l x. free_segment (st / seg) s (omega arith) (omega arith) (sym x)) ∙ (kept_there seg (t / seg) end (n + 1) s numbers eight above at ∙ sym (ap (λ (b : Bool). cond b n (n + 1)) (ne_eqb (st / seg) s ne))))

-- ---- all of it

module _ {U : Type 0} (words : U → List ℕ) (seg : ℕ) where
  pub put_stored : (t : ℕ) (u : U) (starts ring : List ℕ) → 0 < seg → length (words u) ≤ seg → length starts ≡ 8 → length ring ≡ 8 * seg
      → IsPut words seg t u (λ i. get_or starts i 0) (λ i. get_or (starts_with seg (t / seg) t (length (words u)) starts) i 0) (λ i. get_or ring i 0) (λ i. get_or (words_with seg t (words u) ring) i 0)
  put_stored t u starts ring pos fits eight wide = record {
    starts = new_start seg t (length (words u)) starts pos fits eight;
    other_starts = λ s below near. kept_others seg t (length (words u)) (start_at seg t (length (words u))) (end_at seg t (length (words u))) s starts pos below near;
    unit = unit_there seg t (words u) ring pos fits wide;
    ends = end_there seg t (words u) ring pos fits wide;
    wraps = wrap_there seg t (words u) ring pos fits wide;
    other_words = others_there seg t (words u) ring pos fits wide;
  }

  pub put_numbered : (pos : 0 < seg) (t n : ℕ) (u : U) (numbers : List ℕ) → length (words u) ≤ seg → length numbers ≡ 8 → IsNumbered words seg pos t n u (λ i. get_or numbers i 0) (λ i. get_or (numbers_with seg (t / seg) t (length (words u)) n numbers) i 0)
  put_numbered pos t n u numbers fits eight = record {
    entered = new_number seg t (length (words u)) n numbers pos fits eight;
    others = λ s below near. kept_others seg t (length (words u)) n (n + 1) s numbers pos below near;
  }
