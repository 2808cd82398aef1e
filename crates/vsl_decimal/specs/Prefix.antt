-- What follows a prefix and a colon (vsl-query(7), "Record selection criteria": a prefix counts without regard to case).
use Rattle.std.specs.Prelude.{◌≡◌, ℕ, ◌+◌, Bool, if◌then◌else◌, List, [], ◌∷◌, ◌++◌, map, length, drop, reverse, true, false, Option, None, Some}
use Rattle.std.specs.Char.{to_ascii_lowercase, eq_ignore_ascii_case}
use Rattle.std.specs.List.{All, starts_with}
use Rattle.vsl_decimal.specs.Field.{is_space}

-- the same text but for the case of ASCII letters
abbrev pub IsSameCaseless : List ℕ → List ℕ → Type 0
IsSameCaseless a b = map to_ascii_lowercase a ≡ map to_ascii_lowercase b

-- the byte between a prefix and what follows it
abbrev pub colon : ℕ
colon = 58

-- the text is the prefix in any case, a colon, and what stands behind
abbrev pub FollowsPrefix : List ℕ → List ℕ → List ℕ → Type 0
FollowsPrefix prefix text behind = (name : List ℕ) × IsSameCaseless name prefix × (text ≡ name ++ colon ∷ behind)

-- the text doesn't begin with white space
abbrev pub NoSpaceFirst : List ℕ → Type 0
NoSpaceFirst [] = Unit {0}
NoSpaceFirst (b ∷ text) = is_space b ≡ false

-- the value is the text without its leading white space
abbrev pub WithoutBlanks : List ℕ → List ℕ → Type 0
WithoutBlanks text value = (blanks : List ℕ) × All (λ b. is_space b ≡ true) blanks × NoSpaceFirst value ×
    (text ≡ blanks ++ value)

-- the text is the prefix in any case, a colon, white space, and the value, which doesn't begin with white space
abbrev pub IsValueAfter : List ℕ → List ℕ → List ℕ → Type 0
IsValueAfter prefix text value = (behind : List ℕ) × FollowsPrefix prefix text behind × WithoutBlanks behind value

-- whether the text begins with the prefix, in any case, and a colon
abbrev pub is_named : List ℕ → List ℕ → Bool
is_named prefix text = starts_with eq_ignore_ascii_case text (prefix ++ colon ∷ [])

-- a text without its leading white space
abbrev pub without_spaces : List ℕ → List ℕ
without_spaces [] = []
without_spaces (b ∷ text) = if is_space b then without_spaces text else b ∷ text

-- what follows the prefix and a colon, without leading white space, where the text begins with them
abbrev pub value_after : List ℕ → List ℕ → Option (List ℕ)
value_after prefix text = if is_named prefix text then Some (without_spaces (drop (length prefix + 1) text)) else None

-- a text without its trailing white space
abbrev pub without_spaces_behind : List ℕ → List ℕ
without_spaces_behind text = reverse (without_spaces (reverse text))

-- a text without leading and trailing white space
abbrev pub trimmed : List ℕ → List ℕ
trimmed text = without_spaces_behind (without_spaces text)
