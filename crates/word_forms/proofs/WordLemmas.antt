-- A word that is taken, and one that has letters.
use Rattle.std.proofs.Common.{◌≡◌, ℕ, suc, ◌+◌, ◌≤◌, ◌<◌, true, List, [], ◌∷◌, length, map, drop, drop-cons, get_or, add-one, arith, lit<, sym, ap, ◌∙◌}
use Rattle.std.proofs.lemmas.Bool.{eqb-true}
use Rattle.std.proofs.lemmas.List.{drop-map}
use Rattle.word_forms.specs.Items.{has_letters}

-- the word at a place is the first of those from there on
pub took : {X : Type 0} (f : X → List ℕ) (xs : List X) (i : ℕ) (x : X) (word : List ℕ) → i < length xs → word ≡ f (get_or xs i x) → drop i (map f xs) ≡ word ∷ drop (i + 1) (map f xs)
took f xs i x word below same =
    drop-map f i xs ∙ ap (map f) (drop-cons xs i x below) ∙ ap (λ (w : List ℕ). w ∷ map f (drop (suc i) xs)) (sym same)
    ∙ ap (λ (rest : List (List ℕ)). word ∷ rest) (sym (drop-map f (suc i) xs)) ∙ ap (λ (n : ℕ). word ∷ drop n (map f xs)) (sym (add-one i))

-- the first byte of a word with letters is one of ASCII
pub lettered : (word : List ℕ) → has_letters word ≡ true → (1 ≤ length word) × (get_or word 0 0 < 128)
lettered [] has = absurd (let bad : ⊥ = cc in bad)
lettered (b ∷ []) has = absurd (let bad : ⊥ = cc in bad)
lettered (b ∷ letter ∷ text) has = (omega arith, rw (eqb-true b 45 has) (lit< tt))
