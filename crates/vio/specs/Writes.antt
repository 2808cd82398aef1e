-- What several writes to a handle come to (this project's choice).
use Rattle.std.specs.Prelude.{ℕ, List, ◌++◌}
use Rattle.vio.specs.World.{Seen, Wrote}

-- a text was written on to one that is so
pub record WroteOn (h : ℕ) (text : List ℕ) (IsSo : List ℕ → Type 0) (before now : Seen) : Type 0 where
  pub added : List ℕ
  pub is : IsSo (text ++ added)
  pub wrote : Wrote h added before now
