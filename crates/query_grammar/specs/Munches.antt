-- As many bytes as begin a token (this project's choice).
use Rattle.std.specs.Prelude.{◌≡◌, ℕ, true, false, List, [], ◌∷◌, ◌++◌}
use Rattle.query_grammar.specs.declared.mode.Mode.{Mode}
use Rattle.query_grammar.specs.Moves.{Kept}
use Rattle.query_grammar.specs.Scanner.{begins}

-- bytes that go on from what has begun, and then one that doesn't, or the end
pub data Munches (m : Mode) (k : Kept) : List ℕ → List ℕ → List ℕ → Type 0 where
  ends : (w : List ℕ) → Munches m k w [] []
  stops : (w : List ℕ) (c : ℕ) (rest : List ℕ) → begins m k (w ++ c ∷ []) ≡ false → Munches m k w [] (c ∷ rest)
  more : {w prefix rest : List ℕ} (c : ℕ) → begins m k (w ++ c ∷ []) ≡ true → Munches m k (w ++ c ∷ []) prefix rest → Munches m k w (c ∷ prefix) rest
