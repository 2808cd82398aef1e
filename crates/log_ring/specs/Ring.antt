-- Which ring it is that threads share (this project's choice).
use Rattle.std.specs.Prelude.{ℕ}
use Rattle.atomic_table.specs.Seated.{TableId}

-- which ring it is: the table that has its words, how many words a segment has, and how many writers and readers there
-- are. Sixteen feeds and the requests that are made write, and no tool has more than sixteen outputs
pub record RingSet : Type 0 where
  pub table : TableId
  pub seg : ℕ
  pub writers : ℕ
  pub readers : ℕ

-- how many writers there may be
abbrev pub most_writers : ℕ
most_writers = 17

-- how many readers there may be
abbrev pub most_readers : ℕ
most_readers = 16
