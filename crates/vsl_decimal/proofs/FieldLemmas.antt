-- The fields of a text as the library's parts of a list.
use Rattle.std.proofs.Common.{◌≡◌, ℕ, Bool, true, false, eqb, not, cond, List, [], ◌∷◌, length, refl, ap, arith}
use Rattle.std.specs.List as lists
use Rattle.std.specs.List.{slice_split}
use Rattle.vsl_decimal.specs.Field.{is_space, is_field, parts, onto_first}

onto_same : (b : ℕ) (xs ys : List (List ℕ)) → xs ≡ ys → lists.onto_first b xs ≡ onto_first b ys
onto_same b [] ys e = ap (onto_first b) e
onto_same b (part ∷ xs) ys e = ap (onto_first b) e

step : (space : Bool) (b : ℕ) (xs ys : List (List ℕ)) → xs ≡ ys → cond space ([] ∷ xs) (lists.onto_first b xs) ≡ cond space ([] ∷ ys) (onto_first b ys)
step true b xs ys e = ap (λ (zs : List (List ℕ)). [] ∷ zs) e
step false b xs ys e = onto_same b xs ys e

-- the parts are those of a split at white space
pub slice_split-is_space : (text : List ℕ) → slice_split is_space text ≡ parts text
slice_split-is_space [] = refl
slice_split-is_space (b ∷ text) = step (is_space b) b (slice_split is_space text) (parts text) (slice_split-is_space text)

-- a part has a byte where it isn't empty
pub not_empty : (part : List ℕ) → not (eqb (length part) 0) ≡ is_field part
not_empty [] = refl
not_empty (b ∷ part) = grind arith
