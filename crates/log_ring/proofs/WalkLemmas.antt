-- A walk over a list, one element after the other.
use Rattle.std.proofs.Common.{◌≡◌, ℕ, zero, suc, ◌+◌, ◌<◌, List, [], ◌∷◌, length, drop, get_or, sym, ap, ◌∙◌, arith}

-- what is left begins with the next one
pub next_is : (xs ys : List ℕ) (n x : ℕ) → drop n xs ≡ x ∷ ys → (x ≡ get_or xs n 0) × (ys ≡ drop (n + 1) xs)
next_is [] ys zero x e = cc e
next_is [] ys (suc n) x e = cc e
next_is (y ∷ xs) ys zero x e = (sym (ap (λ (l : List ℕ). get_or l 0 0) e), sym (ap (drop 1) e))
next_is (y ∷ xs) ys (suc n) x e = let rest = next_is xs ys n x e in let up : suc n + 1 ≡ suc (n + 1) = omega arith in (rest.0, rest.1 ∙ ap (λ (k : ℕ). drop k (y ∷ xs)) (sym up))

-- something is left before the end
pub some_left : (xs : List ℕ) (n : ℕ) → n < length xs → drop n xs ≡ [] → ⊥
some_left [] n l e = omega arith
some_left (y ∷ xs) zero l e = cc e
some_left (y ∷ xs) (suc n) l e = some_left xs n (omega arith) e
