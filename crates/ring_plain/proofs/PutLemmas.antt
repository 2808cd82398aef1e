-- A put keeps what a ring has for its log. The words of the unit, the marks and the starts that it enters lie less than eight segments ahead of what the ring has, so
-- they don't stand in the words of what is kept.
use Rattle.std.proofs.Common.{◌≡◌, ℕ, ◌+◌, ◌-◌, ◌*◌, ◌/◌, ◌%◌, ◌<◌, ◌≤◌, false, eqb, List, [], ◌∷◌, ◌++◌, length, get_or, sym, ap, ◌∙◌, ⊎_elim, arith, Some, eqb-true}
use mathlib.Core.Logic.{dite}
use native.Mathlib.Decide.{dec_le}
use Rattle.std.specs.Option.{option_or}
use Rattle.ring_layout.specs.Places.{stays, start_at, end_at, if_some, first_in, placed_word, words_from, tail, segment_start, AreFit, end_mark, wrap_mark}
use Rattle.ring_layout.specs.Content.{HoldsLog}
use Rattle.ring_layout.proofs.PushLemmas.{tail_push, words_push, start_push}
use Rattle.ring_layout.proofs.EntriesLemmas.{start_there}
use Rattle.ring_layout.proofs.TakenLemmas.{start_above}
use Rattle.ring_layout.proofs.StartLemmas.{start_below}
use Rattle.ring_layout.proofs.AgreedLemmas.{div_up, or_some, if_true, placed_is, body_below}

module _ {U : Type 0} (words : U → List ℕ) (seg : ℕ) where
  -- a unit was put at the tail t: what is new, and what stays
  pub record IsPut (t : ℕ) (u : U) (ent ent' word word' : ℕ → ℕ) : Type 0 where
    pub starts : (s p : ℕ) → t / seg < s → first_in seg s (start_at seg t (length (words u)) ∷ end_at seg t (length (words u)) ∷ []) ≡ Some p → ent' (s % 8) ≡ p
    pub other_starts : (s : ℕ) → s ≤ t / seg → end_at seg t (length (words u)) / seg < s + 8 → ent' (s % 8) ≡ ent (s % 8)
    pub unit : (j : ℕ) → j < length (words u) → word' ((start_at seg t (length (words u)) + j) % (8 * seg)) ≡ get_or (words u) j 0
    pub ends : word' (end_at seg t (length (words u)) % (8 * seg)) ≡ end_mark
    pub wraps : stays seg t (length (words u)) ≡ false → word' (t % (8 * seg)) ≡ wrap_mark
    pub other_words : (q : ℕ) → q < t → end_at seg t (length (words u)) / seg < q / seg + 8 → word' (q % (8 * seg)) ≡ word (q % (8 * seg))

module _ {U : Type 0} (words : U → List ℕ) (seg : ℕ) (pos : 0 < seg) where
  -- the ring has the longer log
  pub put_holds : (log : List U) (u : U) (ent ent' word word' : ℕ → ℕ) → AreFit words seg log → 0 < length (words u) → length (words u) ≤ seg → HoldsLog words seg log (tail words seg log / seg) ent word
      → IsPut words seg (tail words seg log) u ent ent' word word' → HoldsLog words seg (log ++ u ∷ []) (end_at seg (tail words seg log) (length (words u)) / seg) ent' word'
  put_holds log u ent ent' word word' fit some_word fits a put =
      let t : ℕ = tail words seg log in
      let w : ℕ = length (words u) in
      let st : ℕ = start_at seg t w in
      let n : ℕ = end_at seg t w in
      let above = start_above seg t w pos in
      let up = div_up seg t n pos (omega arith) in
      record {
        segment_starts = λ s p l m i. dite (dec_le s (t / seg))
            (λ old. let there = start_there words seg log s pos fit old in
            let same : Some p ≡ Some there.0 = sym i ∙ (start_push words seg log u s ∙ ap (λ x. option_or x (first_in seg s (st ∷ n ∷ []))) there.1) in
            put.other_starts s old m ∙ a.segment_starts s p old (omega arith) (there.1 ∙ sym same))
            (λ new. ⊎_elim
            (λ (h : segment_start words seg log s ≡ Some p). let z = start_below words seg pos log s p h in absurd (omega arith))
            (λ (h : first_in seg s (st ∷ n ∷ []) ≡ Some p). put.starts s p (omega arith) h)
            (or_some (sym (start_push words seg log u s) ∙ i)));
        word_at = λ q x i m. ⊎_elim
            (λ (h : words_from words seg 0 (log ++ u ∷ []) q ≡ Some x). ⊎_elim
            (λ (k : words_from words seg 0 log q ≡ Some x). let below = body_below words seg pos 0 log q x k in
            put.other_words q below m ∙ a.word_at q x (ap (λ z. option_or z (if_some (eqb q t) end_mark)) k) (omega arith))
            (λ (k : placed_word words seg t u q ≡ Some x). ⊎_elim
            (λ (z : (q ≡ t) × (stays seg t w ≡ false) × (x ≡ wrap_mark)). ap (λ (y : ℕ). word' (y % (8 * seg))) z.0 ∙ (put.wraps z.1 ∙ sym z.2))
            (λ (z : (st ≤ q) × (q < n) × (x ≡ get_or (words u) (q - st) 0)). let z0 = z.0 in let z1 = z.1 in
            ap (λ (y : ℕ). word' (y % (8 * seg))) (omega arith) ∙ (put.unit (q - st) (omega arith) ∙ sym z.2))
            (placed_is words seg pos t u q x k))
            (or_some (sym (words_push words seg log u q) ∙ h)))
            (λ (h : if_some (eqb q (tail words seg (log ++ u ∷ []))) end_mark ≡ Some x). let f = if_true h in let e : q ≡ n = eqb-true q (tail words seg (log ++ u ∷ [])) f.0 ∙ tail_push words seg log u in
            ap (λ (y : ℕ). word' (y % (8 * seg))) e ∙ (put.ends ∙ f.1))
            (or_some i);
      }
