-- Numbers in messages (this project's choice).
use Rattle.std.specs.Prelude.{ℕ, List, ◌++◌, decimal}

-- a text with a number in it, in decimal
abbrev pub numbered : List ℕ → ℕ → List ℕ → List ℕ
numbered before number after = before ++ decimal number ++ after
