-- What every job keeps to, whatever the words are (this project's choice).
use Rattle.std.specs.Prelude.{◌≡◌, ℕ, ◌≤◌, false, length, Option, IfSome}
use Rattle.tool_words.specs.declared.job.Job.{Job}
use Rattle.tool_words.specs.declared.job.Order.{Order}
use Rattle.tool_words.specs.declared.job.Order.TheVariants.{Threads, Turns, FeedFirst}
use Rattle.tool_words.specs.Job.{lacks_log, has_two_logs}

-- a number is in a range
abbrev pub IsWithin : ℕ → ℕ → ℕ → Type 0
IsWithin low high n = (low ≤ n) × (n ≤ high)

-- the number that chooses the turns is in its range
abbrev pub HasTurns : Order → Type 0
HasTurns Threads = Unit {0}
HasTurns (Turns seed) = seed ≤ 65536
HasTurns FeedFirst = Unit {0}

-- the numbers of a job are in their ranges
pub record AreInRange (seg reclen limit timeout : ℕ) (keep : Option ℕ) (made : Option (ℕ × ℕ)) (order : Order) : Type 0 where
  pub segment : IsWithin 64 1048576 seg
  pub record_length : IsWithin 16 4000 reclen
  pub pending : IsWithin 1 1000000 limit
  pub seconds : IsWithin 1 1000000 timeout
  pub groups : IfSome keep (λ n. IsWithin 1 999999999 n)
  pub requests : IfSome made (λ n. IsWithin 1 100000 n.0 × IsWithin 0 65536 n.1)
  pub turns : HasTurns order

-- a job's numbers are in their ranges, it has the one log that it needs, and it names at most sixteen listings
pub record IsSound (job : Job) : Type 0 where
  pub numbers : AreInRange job.seg job.reclen job.limit job.timeout job.keep job.made job.order
  pub log : lacks_log job ≡ false
  pub one_log : has_two_logs job ≡ false
  pub feeds : length job.feeds ≤ 16
