-- Where a unit lies in its lap.
use Rattle.std.proofs.Common.{◌≡◌, ℕ, ◌+◌, ◌*◌, ◌/◌, ◌%◌, ◌<◌, ◌≤◌, sym, ap, ◌∙◌, subst, arith, div-add-mod'}
use Rattle.std.proofs.lemmas.Nat.{mod-mul-add}
use mathlib.Core.Logic.{dite}
use native.Mathlib.Decide.{dec_lt}
use Rattle.ring_layout.specs.Places.{start_at}
use Rattle.ring_layout.proofs.EntriesLemmas.{at_stay, at_wrap}

-- places of one lap
pub in_lap : (n j m : ℕ) → n % m + j < m → (n + j) % m ≡ n % m + j
in_lap n j m l = let p = div-add-mod' n m in ap (λ (z : ℕ). z % m) (omega arith) ∙ mod-mul-add (n / m) m (n % m + j) l

-- a unit that wraps starts at the next lap's first word
pub wrap_first : (seg t w : ℕ) → 0 < seg → 8 * seg ≤ t % (8 * seg) + w → start_at seg t w % (8 * seg) ≡ 0
wrap_first seg t w pos far = ap (λ (z : ℕ). z % (8 * seg)) (at_wrap seg t w far ∙ omega arith) ∙ mod-mul-add (t / (8 * seg) + 1) (8 * seg) 0 (omega arith)

-- a unit and the mark behind it don't go past the lap
pub in_stretch : (seg t w : ℕ) → 0 < seg → w ≤ seg → start_at seg t w % (8 * seg) + w < 8 * seg
in_stretch seg t w pos fits = dite (dec_lt (t % (8 * seg) + w) (8 * seg))
    (λ near. subst (λ (z : ℕ). z % (8 * seg) + w < 8 * seg) (sym (at_stay seg t w near)) near)
    (λ far. let z = wrap_first seg t w pos (omega arith) in omega arith)
