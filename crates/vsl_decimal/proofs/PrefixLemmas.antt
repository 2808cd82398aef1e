-- White space at the beginning of a text.
use Rattle.std.proofs.Common.{◌≡◌, ℕ, true, List, [], ◌∷◌, ◌++◌, take, drop, sym, ◌∙◌, refl, ap}
use Rattle.std.proofs.lemmas.List.{take-append-drop}
use Rattle.std.proofs.lemmas.List.Elements.{All-nil, All-cons}
use Rattle.vsl_decimal.specs.Field.{is_space}
use Rattle.vsl_decimal.specs.Prefix.{NoSpaceFirst, WithoutBlanks, IsSameCaseless, IsValueAfter}

-- a blank before the text
pub WithoutBlanks-more : (b : ℕ) (text value : List ℕ) → is_space b ≡ true → WithoutBlanks text value → WithoutBlanks (b ∷ text) value
WithoutBlanks-more b text value e h = (b ∷ h.0, All-cons (λ x. is_space x ≡ true) b h.0 e h.1, h.2, ap (λ (xs : List ℕ). b ∷ xs) h.3)

-- a text that doesn't begin with a blank
pub WithoutBlanks-none : (text : List ℕ) → NoSpaceFirst text → WithoutBlanks text text
WithoutBlanks-none text h = ([], All-nil (λ x. is_space x ≡ true), h, refl)

-- a prefix, a colon and a value
pub IsValueAfter-from : (prefix text name after behind value : List ℕ) (n : ℕ) → IsSameCaseless name prefix → name ≡ take n text → after ≡ drop n text →
    after ≡ 58 ∷ behind → WithoutBlanks behind value → IsValueAfter prefix text value
IsValueAfter-from prefix text name after behind value n same front back colon blanks =
    let parts : text ≡ name ++ after = rw (front, back) (sym (take-append-drop n text)) in
    (behind, (name, same, parts ∙ ap (λ (xs : List ℕ). name ++ xs) colon), blanks)
