-- Fields in brackets.
use Rattle.std.proofs.Common.{◌≡◌, ℕ, ◌==◌, List, [], ◌∷◌, ◌++◌, Some, None, refl, ap, ◌∙◌, Bool, true, false}
use Rattle.std.specs.Prelude.{if◌then◌else◌, option_map}
use Rattle.ncsa_format.specs.Reading.{before_last}

map_chosen : (c : ℕ) (front : List ℕ) (t : Bool) → option_map (λ more. c ∷ more) (if t then Some front else None) ≡ (if t then Some (c ∷ front) else None)
map_chosen c front true = refl
map_chosen c front false = refl

-- a text without its last byte
pub before_last_push : (b : ℕ) (front : List ℕ) (last : ℕ) → before_last b (front ++ last ∷ []) ≡ (if b == last then Some front else None)
before_last_push b [] last = refl
before_last_push b (c ∷ []) last = map_chosen c [] (b == last)
before_last_push b (c ∷ d ∷ front) last = ap (option_map (λ more. c ∷ more)) (before_last_push b (d ∷ front) last) ∙ map_chosen c (d ∷ front) (b == last)
