-- What the steps of writing a unit's bytes leave (this project's choice).
use Rattle.std.specs.Prelude.{◌≡◌, ℕ, ◌+◌, List, ◌++◌, length, take, drop}

-- bytes were written from a place on, up to another
pub record Wrote (at stop : ℕ) (bytes old new : List ℕ) : Type 0 where
  pub size : stop ≡ at + length bytes
  pub is : new ≡ take at old ++ bytes ++ drop stop old
