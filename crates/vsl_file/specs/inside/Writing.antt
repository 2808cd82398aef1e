-- What the steps of writing a unit add (this project's choice).
use Rattle.std.specs.Prelude.{ℕ, ◌-◌, ◌%◌, List, [], ◌∷◌, ◌++◌, length, take}

-- the bytes of a payload in whole words: zero bytes fill the last one
abbrev pub filled : List ℕ → List ℕ
filled payload = payload ++ take ((4 - length payload % 4) % 4) (0 ∷ 0 ∷ 0 ∷ [])
