-- How the program ends where a tool is asked for (this project's choice).
use Rattle.std.specs.Prelude.{◌≡◌, ◌⊎◌, ℕ, List}
use Rattle.vio.specs.World.{Seen}
use Rattle.vio.specs.Calls.{Called}
use Rattle.varnish_tools.specs.declared.outcome.Outcome.{Outcome}
use Rattle.varnish_tools.specs.Theorem.{IsFaithful, IsCutShort, TouchesJob}

-- the tools did what the words ask for and the exit status is theirs; or memory was refused, and it is 3
abbrev pub IsToolStatus : List (List ℕ) → ℕ → Seen → Seen → Type 0
IsToolStatus words status before now =
    Called (TouchesJob words) before now
    × (((outcome : Outcome) × (status ≡ outcome.status) × IsFaithful words outcome before now) ⊎
    ((status ≡ 3) × IsCutShort words before now))
