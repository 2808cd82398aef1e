-- Each segment that a put enters has a start of its own.
use Rattle.std.proofs.Common.{◌≡◌, ◌⊎◌, ℕ, ◌+◌, ◌-◌, ◌*◌, ◌/◌, ◌%◌, ◌<◌, ◌≤◌, Bool, List, [], ◌∷◌, length, sym, refl, ap, ◌∙◌, subst, ⊎_elim, inl, inr, arith, Some, eq-eqb, ne_eqb, lt-ltb, le-ltb, div-add-mod', mod-lt}
use Rattle.std.proofs.lemmas.Nat.{div-mul-add, div_below}
use mathlib.Core.Logic.{dite}
use native.Mathlib.Decide.{ℕ_discrete, dec_lt, dec_le}
use Rattle.std.specs.Option.{option_or}
use Rattle.ring_layout.specs.Places.{start_at, end_at, if_some, first_in, tail_from, ends_from, tail, segment_start, AreFit}

pub at_stay : (seg t w : ℕ) → t % (8 * seg) + w < 8 * seg → start_at seg t w ≡ t
at_stay seg t w l = rw (lt-ltb (t % (8 * seg) + w) (8 * seg) l) refl

pub at_wrap : (seg t w : ℕ) → 8 * seg ≤ t % (8 * seg) + w → start_at seg t w ≡ (t / (8 * seg) + 1) * (8 * seg)
at_wrap seg t w l = rw (le-ltb (t % (8 * seg) + w) (8 * seg) l) refl

div_at : (x q n : ℕ) → q * n ≤ x → x < q * n + n → x / n ≡ q
div_at x q n l m = ap (λ (z : ℕ). z / n) (omega arith) ∙ div-mul-add q n (x - q * n) (omega arith)

stay_entered : (seg t w s : ℕ) → 0 < seg → w ≤ seg → t / seg < s → s ≤ (t + w) / seg → (t + w) / seg ≡ s
stay_entered seg t w s pos fits above upto = let p = div-add-mod' t seg in let r : t % seg < seg = omega arith in
    let top : (t + w) / seg < t / seg + 2 = div_below (t + w) seg (t / seg + 2) pos (omega arith) in omega arith

-- a wrap starts in the last segment of a lap
pub wrap_last : (seg t w : ℕ) → 0 < seg → w ≤ seg → 8 * seg ≤ t % (8 * seg) + w → (t / seg ≡ t / (8 * seg) * 8 + 7) × ((t / (8 * seg) + 1) * (8 * seg) / seg ≡ t / (8 * seg) * 8 + 8)
wrap_last seg t w pos fits wraps = let k : ℕ = t / (8 * seg) in let r : ℕ = t % (8 * seg) in let p : k * (8 * seg) + r ≡ t = div-add-mod' t (8 * seg) in let m : r < 8 * seg = mod-lt t (omega arith) in
    (div_at t (k * 8 + 7) seg (omega arith) (omega arith), div_at ((k + 1) * (8 * seg)) (k * 8 + 8) seg (omega arith) (omega arith))

wrap_entered : (seg t w s : ℕ) → 0 < seg → w ≤ seg → 8 * seg ≤ t % (8 * seg) + w → t / seg < s → s ≤ ((t / (8 * seg) + 1) * (8 * seg) + w) / seg
    → ((t / (8 * seg) + 1) * (8 * seg) / seg ≡ s) ⊎ (((t / (8 * seg) + 1) * (8 * seg) + w) / seg ≡ s)
wrap_entered seg t w s pos fits wraps above upto = let l = wrap_last seg t w pos fits wraps in let k : ℕ = t / (8 * seg) in let a = l.0 in let b = l.1 in
    let top : ((k + 1) * (8 * seg) + w) / seg < k * 8 + 10 = div_below ((k + 1) * (8 * seg) + w) seg (k * 8 + 10) pos (omega arith) in
    dite (ℕ_discrete s (k * 8 + 8)) (λ e. inl (b ∙ sym e)) (λ ne. let up : s ≡ k * 8 + 9 = omega arith in inr (omega arith))

-- a segment that a put enters has the unit's start or its end
pub entered : (seg t w s : ℕ) → 0 < seg → w ≤ seg → t / seg < s → s ≤ end_at seg t w / seg → (start_at seg t w / seg ≡ s) ⊎ (end_at seg t w / seg ≡ s)
entered seg t w s pos fits above upto = dite (dec_lt (t % (8 * seg) + w) (8 * seg))
    (λ l. let e = at_stay seg t w l in inr (ap (λ (z : ℕ). (z + w) / seg) e ∙ stay_entered seg t w s pos fits above (subst (λ (z : ℕ). s ≤ (z + w) / seg) e upto)))
    (λ n. let wraps : 8 * seg ≤ t % (8 * seg) + w = omega arith in let e = at_wrap seg t w wraps in
    subst (λ (z : ℕ). (z / seg ≡ s) ⊎ ((z + w) / seg ≡ s)) (sym e) (wrap_entered seg t w s pos fits wraps above (subst (λ (z : ℕ). s ≤ (z + w) / seg) e upto)))

-- a put goes at most two segments ahead
pub two_ahead : (seg t w : ℕ) → 0 < seg → w ≤ seg → end_at seg t w / seg ≤ t / seg + 2
two_ahead seg t w pos fits = dite (dec_lt (t % (8 * seg) + w) (8 * seg))
    (λ l. subst (λ (z : ℕ). (z + w) / seg ≤ t / seg + 2) (sym (at_stay seg t w l))
    (let p = div-add-mod' t seg in let r : t % seg < seg = mod-lt t pos in let top : (t + w) / seg < t / seg + 2 = div_below (t + w) seg (t / seg + 2) pos (omega arith) in omega arith))
    (λ n. let wraps : 8 * seg ≤ t % (8 * seg) + w = omega arith in subst (λ (z : ℕ). (z + w) / seg ≤ t / seg + 2) (sym (at_wrap seg t w wraps))
    (let l = wrap_last seg t w pos fits wraps in let k : ℕ = t / (8 * seg) in let a = l.0 in let b = l.1 in
    let top : ((k + 1) * (8 * seg) + w) / seg < k * 8 + 10 = div_below ((k + 1) * (8 * seg) + w) seg (k * 8 + 10) pos (omega arith) in omega arith))

abbrev Found : ℕ → ℕ → List ℕ → Type 0
Found seg s ps = (p : ℕ) × (first_in seg s ps ≡ Some p)

found_here : (seg s p : ℕ) (ps : List ℕ) → p / seg ≡ s → Found seg s (p ∷ ps)
found_here seg s p ps e = (p, ap (λ (b : Bool). option_or (if_some b p) (first_in seg s ps)) (eq-eqb (p / seg) s e))

found_later : (seg s p : ℕ) (ps : List ℕ) → Found seg s ps → Found seg s (p ∷ ps)
found_later seg s p ps f = dite (ℕ_discrete (p / seg) s) (λ e. found_here seg s p ps e)
    (λ n. (f.0, ap (λ (b : Bool). option_or (if_some b p) (first_in seg s ps)) (ne_eqb (p / seg) s n) ∙ f.1))

module _ {U : Type 0} (words : U → List ℕ) (seg : ℕ) where
  ends_there : (t : ℕ) (us : List U) (s : ℕ) → 0 < seg → AreFit words seg us → t / seg < s → s ≤ tail_from words seg t us / seg → Found seg s (ends_from words seg t us)
  ends_there t [] s pos fit above upto = absurd (omega arith)
  ends_there t (u ∷ us) s pos fit above upto = let w : ℕ = length (words u) in let n : ℕ = end_at seg t w in
      dite (dec_le s (n / seg))
      (λ l. ⊎_elim (λ (e : start_at seg t w / seg ≡ s). found_here seg s (start_at seg t w) (n ∷ ends_from words seg n us) e)
      (λ (e : n / seg ≡ s). found_later seg s (start_at seg t w) (n ∷ ends_from words seg n us) (found_here seg s n (ends_from words seg n us) e))
      (entered seg t w s pos fit.0.1 above l))
      (λ g. found_later seg s (start_at seg t w) (n ∷ ends_from words seg n us) (found_later seg s n (ends_from words seg n us) (ends_there n us s pos fit.1 (omega arith) upto)))

  -- every segment up to the tail's has an segment_start
  pub start_there : (us : List U) (s : ℕ) → 0 < seg → AreFit words seg us → s ≤ tail words seg us / seg → (p : ℕ) × (segment_start words seg us s ≡ Some p)
  start_there us s pos fit upto = let z : 0 / seg ≡ 0 = div_at 0 0 seg (omega arith) (omega arith) in dite (ℕ_discrete s 0)
      (λ e. found_here seg s 0 (ends_from words seg 0 us) (z ∙ sym e))
      (λ n. found_later seg s 0 (ends_from words seg 0 us) (ends_there 0 us s pos fit (omega arith) upto))
