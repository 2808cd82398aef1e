-- The words of records, one by one.
use Rattle.std.proofs.Common.{◌≡◌, ℕ, zero, suc, ◌+◌, ◌-◌, ◌<◌, ◌≤◌, List, ◌∷◌, ◌++◌, length, drop, get_or, refl, sym, ap, ◌∙◌, arith}
use Rattle.std.specs.List.{flat_map}
use Rattle.std.proofs.lemmas.List.{drop_more, get_or_append_left, get_or-append-add}

-- a word behind three
pub behind_three : (a b c : ℕ) (words : List ℕ) (i : ℕ) → 3 ≤ i → get_or (a ∷ b ∷ c ∷ words) i 0 ≡ get_or words (i - 3) 0
behind_three a b c words zero three = absurd (omega (arith, three))
behind_three a b c words (suc zero) three = absurd (omega (arith, three))
behind_three a b c words (suc (suc zero)) three = absurd (omega (arith, three))
behind_three a b c words (suc (suc (suc i))) three =
    let same : suc (suc (suc i)) - 3 ≡ i = omega arith in
    rw same refl

-- what is left begins with the pieces of the next
pub next_piece : {X : Type 0} (f : X → List ℕ) (xs : List X) (i : ℕ) (x : X) → i < length xs → x ≡ get_or xs i x → flat_map f (drop i xs) ≡ f x ++ flat_map f (drop (i + 1) xs)
next_piece f xs i x within is = ap (flat_map f) (drop_more xs i x within) ∙ sym (ap (λ y. f y ++ flat_map f (drop (i + 1) xs)) is)

-- a word in the first piece, and one behind it
pub in_first : (first others all : List ℕ) (i : ℕ) → all ≡ first ++ others → i < length first → get_or first i 0 ≡ get_or all i 0
in_first first others all i is inside = sym (ap (λ (ws : List ℕ). get_or ws i 0) is ∙ get_or_append_left first others 0 i inside)

pub behind_first : (first others all : List ℕ) (i : ℕ) → all ≡ first ++ others → length first ≤ i → get_or others (i - length first) 0 ≡ get_or all i 0
behind_first first others all i is behind =
    let place : length first + (i - length first) ≡ i = omega (arith, behind) in
    sym (ap (λ (ws : List ℕ). get_or ws i 0) is ∙ ap (λ (k : ℕ). get_or (first ++ others) k 0) (sym place) ∙ get_or-append-add first others (i - length first) 0)
