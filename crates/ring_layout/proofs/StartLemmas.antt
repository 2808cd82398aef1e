-- The start of a segment that is not entered.
use Rattle.std.proofs.Common.{◌≡◌, ◌⊎◌, inl, inr, refl, ℕ, ◌+◌, ◌*◌, ◌/◌, ◌%◌, ◌<◌, ◌≤◌, eqb, List, [], ◌∷◌, ◌++◌, length, ◌∙◌, ap, ⊎_elim, arith, Option, Some, None, eqb-true, eq-eqb}
use Rattle.std.proofs.lemmas.Nat.{div_below, mod-mul-add}
use Rattle.std.specs.Option.{option_or}
use Rattle.ring_layout.specs.Places.{start_at, end_at, if_some, first_in, tail_from, ends_from, tail, segment_start, end_mark}
use Rattle.ring_layout.specs.Content.{HoldsLog}
use Rattle.ring_layout.proofs.PushLemmas.{start_push}
use Rattle.ring_layout.proofs.AgreedLemmas.{div_up, or_some, if_true, tail_above}

none_or : (x : Option ℕ) → (x ≡ None) ⊎ ((y : ℕ) × (x ≡ Some y))
none_or None = inl refl
none_or (Some y) = inr (y, refl)

zero_times : (n : ℕ) → 0 ≡ 0 * n + 0
zero_times n = omega arith

module _ {U : Type 0} (words : U → List ℕ) (seg : ℕ) (pos : 0 < seg) where
  -- no segment behind the tail's has a start
  ends_below : (t : ℕ) (us : List U) (s p : ℕ) → first_in seg s (ends_from words seg t us) ≡ Some p → s ≤ tail_from words seg t us / seg
  ends_below t [] s p e = cc e
  ends_below t (u ∷ us) s p e =
      let st : ℕ = start_at seg t (length (words u)) in
      let n : ℕ = end_at seg t (length (words u)) in
      let up = tail_above words seg pos n us in
      let upto : (q : ℕ) → q ≤ n → if_some (eqb (q / seg) s) q ≡ Some p → s ≤ tail_from words seg n us / seg = λ q l h. let same = eqb-true (q / seg) s (if_true h).0 in let z = div_up seg q (tail_from words seg n us) pos (omega arith) in omega arith in
      ⊎_elim (upto st (omega arith)) (λ (h : option_or (if_some (eqb (n / seg) s) n) (first_in seg s (ends_from words seg n us)) ≡ Some p). ⊎_elim (upto n (omega arith)) (ends_below n us s p) (or_some h)) (or_some e)

  pub start_below : (log : List U) (s p : ℕ) → segment_start words seg log s ≡ Some p → s ≤ tail words seg log / seg
  start_below log s p e = ⊎_elim
      (λ (h : if_some (eqb (0 / seg) s) 0 ≡ Some p). let same = eqb-true (0 / seg) s (if_true h).0 in let z = div_up seg 0 (tail words seg log) pos (omega arith) in omega arith)
      (ends_below 0 log s p) (or_some e)

  -- the start of a segment that a put enters is the first of the unit's start and end that lies there
  pub start_entered : (log : List U) (u : U) (s p : ℕ) → tail words seg log / seg < s → first_in seg s (start_at seg (tail words seg log) (length (words u)) ∷ end_at seg (tail words seg log) (length (words u)) ∷ []) ≡ Some p
      → segment_start words seg (log ++ u ∷ []) s ≡ Some p
  start_entered log u s p above e = let found = first_in seg s (start_at seg (tail words seg log) (length (words u)) ∷ end_at seg (tail words seg log) (length (words u)) ∷ []) in start_push words seg log u s ∙ ⊎_elim
      (λ (none : segment_start words seg log s ≡ None). ap (λ x. option_or x found) none ∙ e)
      (λ (some : (y : ℕ) × (segment_start words seg log s ≡ Some y)). let z = start_below log s some.0 some.1 in absurd (omega arith))
      (none_or (segment_start words seg log s))

  zero_div : 0 / seg ≡ 0
  zero_div = let b : 0 / seg < 1 = div_below 0 seg 1 pos (omega arith) in omega arith

  -- the first segment of a log starts at its first place
  pub first_start : segment_start words seg [] 0 ≡ Some 0
  first_start = (λ i. option_or (if_some (eq-eqb (0 / seg) 0 zero_div i) 0) None)

  -- a ring of zeros and the end mark holds no unit
  pub empty_holds : (ent word : ℕ → ℕ) → ent 0 ≡ 0 → word 0 ≡ end_mark → HoldsLog words seg [] 0 ent word
  empty_holds ent word start mark = record {
    segment_starts = λ s p l m e.
        let z = zero_div in
        let s_is : s ≡ 0 = omega arith in
        let p_is : 0 ≡ p = ⊎_elim (λ (h : if_some (eqb (0 / seg) s) 0 ≡ Some p). (if_true h).1) (λ (h : first_in seg s [] ≡ Some p). cc h) (or_some e) in
        ap (λ (k : ℕ). ent (k % 8)) s_is ∙ (start ∙ p_is);
    word_at = λ q x e m.
        let f = if_true e in
        let q_is : q ≡ 0 = eqb-true q 0 f.0 in
        let first : 0 % (8 * seg) ≡ 0 = ap (λ (k : ℕ). k % (8 * seg)) (zero_times (8 * seg)) ∙ mod-mul-add 0 (8 * seg) 0 (omega arith) in
        ap (λ (k : ℕ). word (k % (8 * seg))) q_is ∙ (ap word first ∙ (mark ∙ f.1));
  }
