-- Which bytes of a value are printed as they are.
use Rattle.std.proofs.Common.{◌≡◌, ℕ, Bool, true, false, [], ◌∷◌, ◌||◌, if◌then◌else◌, refl, sym, ap, ◌∙◌}
use Rattle.std.specs.Prelude.{◌==◌, nat_lt}
use Rattle.std.proofs.lemmas.Bool.{eqb-true, or_from, or_parts}
use Rattle.ncsa_format.specs.Line.{quoted_byte}

-- whether a byte is printed as an escape
abbrev pub is_escaped : ℕ → Bool
is_escaped b = ((nat_lt b 32 || nat_lt 126 b) || (b == 34)) || (b == 92)

else_so : {A : Type 0} (t : Bool) (x y : A) → t ≡ false → (if t then x else y) ≡ y
else_so t x y e = ap (λ (u : Bool). if u then x else y) e

-- a byte that isn't below 32 is none that is
not_below : (b n : ℕ) → nat_lt n 32 ≡ true → nat_lt b 32 ≡ false → (b == n) ≡ false
not_below b n small high = elim (b == n) as (λ (t : Bool). (b == n) ≡ t → t ≡ false) [
  | true ↦ λ is. sym small ∙ ap (λ (m : ℕ). nat_lt m 32) (sym (eqb-true b n is)) ∙ high
  | false ↦ λ is. refl
] refl

-- every other byte is printed as it is
pub plain_byte : (b : ℕ) → is_escaped b ≡ false → quoted_byte b ≡ b ∷ []
plain_byte b e =
    let outer = or_parts ((nat_lt b 32 || nat_lt 126 b) || (b == 34)) (b == 92) e in
    let inner = or_parts (nat_lt b 32 || nat_lt 126 b) (b == 34) outer.0 in
    let high = (or_parts (nat_lt b 32) (nat_lt 126 b) inner.0).0 in
    else_so ((b == 34) || (b == 92)) _ _ (or_from (b == 34) (b == 92) inner.1 outer.1)
    ∙ (else_so (b == 10) _ _ (not_below b 10 refl high)
    ∙ (else_so (b == 13) _ _ (not_below b 13 refl high)
    ∙ (else_so (b == 9) _ _ (not_below b 9 refl high)
    ∙ else_so (nat_lt b 32 || nat_lt 126 b) _ _ inner.0)))
