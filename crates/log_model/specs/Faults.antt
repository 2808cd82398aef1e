-- Counts of faults (this project's choice).
use Rattle.std.specs.Prelude.{ℕ, ◌+◌, ◌-◌, ◌^◌, ◌≤◌, min}

-- a count of faults rose in a call; at 2^64 - 1, its last value, a count stands still and counts as risen. Each call
-- that fails makes the count of its kind and name rise, so that who answers a fault can show its cause
abbrev pub HasNewFault : ℕ → ℕ → Type 0
HasNewFault before now = min (before + 1) (2 ^ 64 - 1) ≤ now
