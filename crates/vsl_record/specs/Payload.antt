-- The payload of a record (vsl(7); the bound is this project's choice).
use Rattle.std.specs.Prelude.{ℕ, ◌<◌, ◌≤◌, List, length, slice_index}

-- the most bytes that a payload has
abbrev pub most_payload : ℕ
most_payload = 4000

-- a payload is a list of at most 4,000 bytes
pub record IsPayload (payload : List ℕ) : Type 0 where
  pub bytes : (i : ℕ) → slice_index payload i < 256
  pub short : length payload ≤ most_payload
