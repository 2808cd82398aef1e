-- The words that keep the numbers of segments' first units.
use Rattle.std.proofs.Common.{◌≡◌, ◌≢◌, ℕ, ◌+◌, ◌/◌, ◌%◌, ◌<◌, ◌≤◌, List, [], ◌∷◌, ◌++◌, length, sym, ap, ◌∙◌, arith}
use mathlib.Core.Logic.{dite}
use native.Mathlib.Decide.{ℕ_discrete, dec_le}
use Rattle.ring_layout.specs.Places.{start_at, end_at, tail, AreFit}
use Rattle.ring_layout.specs.History.{first_number}
use Rattle.ring_layout.specs.Content.{HoldsNumbers}
use Rattle.ring_layout.specs.inside.Numbers.{HasNumbered, entered_number}
use Rattle.ring_layout.proofs.PushLemmas.{tail_push}
use Rattle.ring_layout.proofs.EntriesLemmas.{two_ahead}
use Rattle.ring_layout.proofs.TakenLemmas.{number_stays}
use Rattle.ring_layout.proofs.AgreedLemmas.{Set, free_segment}
use Rattle.ring_layout.proofs.NumberLemmas.{number_entered}

module _ {U : Type 0} (words : U → List ℕ) (seg : ℕ) (pos : 0 < seg) where
  -- an empty ring has the number 0
  pub empty_numbers : (num : ℕ → ℕ) → num 0 ≡ 0 → 0 / seg ≡ 0 → HoldsNumbers words seg [] 0 num
  empty_numbers num zero_is none = λ s l m. let s_is : s ≡ 0 = omega arith in ap (λ (k : ℕ). num (k % 8)) s_is ∙ zero_is

  -- the number of a segment that the put enters is stored
  pub numbered : (log : List U) (u : U) (c s x e : ℕ) (num num' : ℕ → ℕ) → AreFit words seg log → length (words u) ≤ seg → Set num num' (s % 8) x → tail words seg log / seg < s → s ≤ c
      → c ≡ end_at seg (tail words seg log) (length (words u)) / seg → e ≡ s → x ≡ entered_number seg (length log) (start_at seg (tail words seg log) (length (words u))) s
      → HoldsNumbers words seg log c num → HasNumbered words seg log u e num → HoldsNumbers words seg log c num' × HasNumbered words seg log u (s + 1) num'
  numbered log u c s x e num num' fit fits put above upto level at x_is holds has =
      let two = two_ahead seg (tail words seg log) (length (words u)) pos fits in (
        λ z l m. put.else (z % 8) (free_segment z s (omega arith) (omega arith)) ∙ holds z l m,
        λ z low below most. dite (ℕ_discrete z s)
            (λ (same : z ≡ s). ap (λ (k : ℕ). num' (k % 8)) same ∙ (put.here ∙ (x_is ∙ (sym (number_entered words seg pos log u s fit fits above (omega arith)) ∙ ap (first_number words seg (log ++ u ∷ [])) (sym same)))))
            (λ (ne : z ≢ s). put.else (z % 8) (free_segment z s (omega arith) (omega arith)) ∙ has z low (omega arith) most),
      )

  -- the unit is in the log
  pub numbers_published : (log : List U) (u : U) (c e : ℕ) (num : ℕ → ℕ) → c ≡ end_at seg (tail words seg log) (length (words u)) / seg → c < e
      → HoldsNumbers words seg log c num → HasNumbered words seg log u e num → HoldsNumbers words seg (log ++ u ∷ []) c num
  numbers_published log u c e num level all holds has = λ s l m.
      let new : tail words seg (log ++ u ∷ []) / seg ≡ end_at seg (tail words seg log) (length (words u)) / seg = ap (λ (z : ℕ). z / seg) (tail_push words seg log u) in
      dite (dec_le s (tail words seg log / seg))
      (λ (old : s ≤ tail words seg log / seg). holds s old m ∙ sym (number_stays words seg pos log u s old))
      (λ entered. has s (omega arith) (omega arith) (omega arith))

  -- what a put at once stores of the numbers, where n units stand before its unit
  pub record IsNumbered (t n : ℕ) (u : U) (num num' : ℕ → ℕ) : Type 0 where
    pub entered : (s : ℕ) → t / seg < s → s ≤ end_at seg t (length (words u)) / seg → num' (s % 8) ≡ entered_number seg n (start_at seg t (length (words u))) s
    pub others : (s : ℕ) → s ≤ t / seg → end_at seg t (length (words u)) / seg < s + 8 → num' (s % 8) ≡ num (s % 8)

  pub numbers_put : (log : List U) (u : U) (num num' : ℕ → ℕ) → AreFit words seg log → length (words u) ≤ seg → tail words seg log / seg ≤ end_at seg (tail words seg log) (length (words u)) / seg
      → HoldsNumbers words seg log (tail words seg log / seg) num → IsNumbered (tail words seg log) (length log) u num num'
      → HoldsNumbers words seg (log ++ u ∷ []) (end_at seg (tail words seg log) (length (words u)) / seg) num'
  numbers_put log u num num' fit fits up holds put = λ s l m.
      let new : tail words seg (log ++ u ∷ []) / seg ≡ end_at seg (tail words seg log) (length (words u)) / seg = ap (λ (z : ℕ). z / seg) (tail_push words seg log u) in
      dite (dec_le s (tail words seg log / seg))
      (λ (old : s ≤ tail words seg log / seg). put.others s old m ∙ (holds s old (omega arith) ∙ sym (number_stays words seg pos log u s old)))
      (λ entered. put.entered s (omega arith) (omega arith) ∙ sym (number_entered words seg pos log u s fit fits (omega arith) (omega arith)))
