-- What came of printing a text of the program's own on standard output (this project's choice).
use Rattle.std.specs.Prelude.{◌≡◌, ◌⊎◌, ℕ, ◌<◌, List, []}
use Rattle.log_model.specs.Prefix.{IsProperPrefix}
use Rattle.vio.specs.declared.world.TheConstants.{OUTPUT}
use Rattle.vio.specs.World.{Seen, Writing, Wrote, FaultsRose}
use Rattle.vio.specs.Writes.{WroteOn}

-- the text was printed, as the exit status says: 0 all of it; 1 a prefix, and a write failed; 3 a prefix, and memory was refused
pub record IsPrinted (text : List ℕ) (status : ℕ) (before now : Seen) : Type 0 where
  pub done : status ≡ 0 → Wrote OUTPUT text before now
  pub stopped : 0 < status → WroteOn OUTPUT [] (λ part. IsProperPrefix part text) before now
  pub failed : status ≡ 1 → FaultsRose Writing OUTPUT before now
  pub statuses : (status ≡ 0) ⊎ (status ≡ 1) ⊎ (status ≡ 3)
