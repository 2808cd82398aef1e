-- Groups that are kept, of some groups and more.
use Rattle.std.proofs.Common.{◌≡◌, ◌≢◌, ℕ, ◌+◌, ◌-◌, zero, suc, true, false, List, [], ◌∷◌, ◌++◌, length, take, Option, None, Some, refl, ap, ◌∙◌, arith, length-append}
use Rattle.std.proofs.lemmas.List.{take-append-le, take_all}
use Rattle.std.proofs.lemmas.Bool.{le-leb, leb-true, leb-false, lt-leb}
use Rattle.std.proofs.Math.Seq.{take-append-add}
use Rattle.txn_rows.specs.declared.group.Group.{Group}
use Rattle.vsl_dispatch.specs.Groups.{kept, is_filled}

-- of as many groups as are kept and more, no more are kept
pub kept_filled : (keep : Option ℕ) (gs hs : List Group) → is_filled keep gs ≡ true → kept keep (gs ++ hs) ≡ kept keep gs
kept_filled None gs hs e = absurd cc
kept_filled (Some most) gs hs e = take-append-le most gs hs (leb-true _ _ e)

-- of fewer groups than are kept all are kept
pub kept_open : (keep : Option ℕ) (gs : List Group) → is_filled keep gs ≡ false → kept keep gs ≡ gs
kept_open None gs e = refl
kept_open (Some most) gs e = let below = leb-false most (length gs) e in take_all most gs (omega (arith, below))

-- as many groups as are kept and more are as many
pub filled_more : (keep : Option ℕ) (gs hs : List Group) → is_filled keep gs ≡ true → is_filled keep (gs ++ hs) ≡ true
filled_more None gs hs e = absurd cc
filled_more (Some most) gs hs e = let most_first = leb-true most (length gs) e in rw (length-append gs hs) (le-leb most (length gs + length hs) (omega (arith, most_first)))

-- exactly as many groups as are kept are as many, and all are kept
pub filled_last : (keep : Option ℕ) (gs : List Group) → keep ≡ Some (length gs) → (is_filled keep gs ≡ true) × (kept keep gs ≡ gs)
filled_last keep gs e = rw e (le-leb (length gs) (length gs) (omega arith), take_all (length gs) gs (omega arith))

-- fewer groups than are kept, and one more that doesn't make as many, are fewer
pub open_more : (keep : Option ℕ) (gs : List Group) (g : Group) → is_filled keep gs ≡ false → keep ≢ Some (length (gs ++ g ∷ [])) → is_filled keep (gs ++ g ∷ []) ≡ false
open_more None gs g e other = refl
open_more (Some most) gs g e other =
    let below = leb-false most (length gs) e in
    let longer : length (gs ++ g ∷ []) ≡ length gs + 1 = length-append gs (g ∷ []) in
    let not_same : most ≢ length (gs ++ g ∷ []) = λ same. other (ap (λ (n : ℕ). Some n) same) in
    lt-leb most (length (gs ++ g ∷ [])) (omega (arith, below, longer, not_same))

-- where fewer groups are there than are kept, those that are kept of them and more begin with them
pub kept_goes_on : (keep : Option ℕ) (gs hs : List Group) → is_filled keep gs ≡ false → (more : List Group) × (kept keep (gs ++ hs) ≡ gs ++ more)
kept_goes_on None gs hs e = (hs, refl)
kept_goes_on (Some most) gs hs e =
    let below = leb-false most (length gs) e in
    let all : most ≡ length gs + (most - length gs) = omega (arith, below) in
    (take (most - length gs) hs, ap (λ (n : ℕ). take n (gs ++ hs)) all ∙ take-append-add gs hs (most - length gs))

-- of no groups none are kept
pub kept_none : (keep : Option ℕ) → kept keep [] ≡ []
kept_none None = refl
kept_none (Some zero) = refl
kept_none (Some (suc most)) = refl
