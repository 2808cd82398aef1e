-- A text that is cut before the first of some bytes.
use Rattle.std.specs.Prelude.{◌≡◌, ℕ, Bool, true, false, List, [], ◌∷◌, ◌++◌}
use Rattle.std.specs.List.{list_any}

-- nothing stands here, or such a byte first
abbrev pub Begins : (ℕ → Bool) → List ℕ → Type 0
Begins p [] = Unit {0}
Begins p (b ∷ text) = p b ≡ true

-- the text is these two parts, and the first such byte begins the second
pub record IsCut (p : ℕ → Bool) (text front behind : List ℕ) : Type 0 where
  pub parts : text ≡ front ++ behind
  pub none : list_any p front ≡ false
  pub first : Begins p behind
