-- What the program answers to the words of a command line (this project's choice).
use Rattle.std.specs.Prelude.{◌≡◌, ◌⊎◌, ℕ, List}
use Rattle.vio.specs.World.{Seen}
use Rattle.vio.specs.Calls.{Called}
use Rattle.vslog.specs.declared.ended.Ended.{Ended}
use Rattle.vslog.specs.Theorem.{Lacks, Runs, status_of}
use Rattle.vslog.specs.Words.{job_of}

-- what the theorem says was done for these words, that they were refused, or that the log that they name was copied or stopped the work, and the exit status is that of how it ended; or
-- what it says of want of memory, and the status is 3
abbrev pub IsCopyStatus : List (List ℕ) → ℕ → Seen → Seen → Type 0
IsCopyStatus words status before now =
    ((ended : Ended) × (status ≡ status_of ended) × Called (Runs words (job_of words) ended) before now) ⊎
    ((status ≡ 3) × Called (Lacks words (job_of words)) before now)
