-- What a reader took of a log: runs of units, and overruns (this project's choice). The newest item stands first, so that one item more is one in front. An overrun
-- has the segment where the reader stood, and the counter that it saw.
use Rattle.std.specs.Prelude.{◌≡◌, ◌≢◌, ◌⊎◌, ℕ, ◌+◌, ◌*◌, ◌/◌, ◌<◌, ◌≤◌, nat_lt, if◌then◌else◌, List, [], ◌∷◌, ◌++◌, length, take, drop, reverse, slice_get, Some}
use Rattle.ring_layout.specs.declared.history.HistoryItem.{HistoryItem}
use Rattle.ring_layout.specs.declared.history.HistoryItem.TheVariants.{UnitRun, Overrun}
use Rattle.ring_layout.specs.declared.history.Run.{Run}
use Rattle.ring_layout.specs.Places.{overrun_distance, seek_distance, start_at, end_at, tail, segment_start}

-- the counter that the newest overrun saw, or 0
abbrev pub last_seen : {U : Type 0} → List (HistoryItem U) → ℕ
last_seen [] = 0
last_seen (UnitRun r ∷ is) = last_seen is
last_seen (Overrun a b ∷ is) = b

-- the newest item is a run, into which the next unit goes
abbrev pub HasRun : {U : Type 0} → List (HistoryItem U) → Type 0
HasRun [] = ⊥
HasRun (UnitRun r ∷ is) = Unit {0}
HasRun (Overrun a b ∷ is) = ⊥

-- the newest run with one unit more
abbrev pub with_unit : {U : Type 0} → U → List (HistoryItem U) → List (HistoryItem U)
with_unit u [] = []
with_unit u (UnitRun r ∷ is) = UnitRun (record r { units = r.units ++ u ∷ [] }) ∷ is
with_unit u (Overrun a b ∷ is) = Overrun a b ∷ is

-- the number of the unit behind the newest run, or 0
abbrev pub next_number : {U : Type 0} → List (HistoryItem U) → ℕ
next_number [] = 0
next_number (UnitRun r ∷ is) = r.first + length r.units
next_number (Overrun a b ∷ is) = next_number is

-- how many units were taken
abbrev pub count_taken : {U : Type 0} → List (HistoryItem U) → ℕ
count_taken [] = 0
count_taken (UnitRun r ∷ is) = length r.units + count_taken is
count_taken (Overrun a b ∷ is) = count_taken is

-- how many units were missed, as the runs tell
abbrev pub count_missed : {U : Type 0} → List (HistoryItem U) → ℕ
count_missed [] = 0
count_missed (UnitRun r ∷ is) = r.missed + count_missed is
count_missed (Overrun a b ∷ is) = count_missed is

module _ {U : Type 0} (words : U → List ℕ) (seg : ℕ) where
  -- how many units start below a place, of those behind a tail
  abbrev pub starts_below : ℕ → List U → ℕ → ℕ
  starts_below t [] p = 0
  starts_below t (u ∷ us) p = (if nat_lt (start_at seg t (length (words u))) p then 1 else 0) + starts_below
      (end_at seg t (length (words u))) us p

  -- the number of the first unit that starts in a segment or later
  abbrev pub first_number : List U → ℕ → ℕ
  first_number log s = starts_below 0 log (s * seg)

  -- a run of this segment, with so many units from this number on, stands at this place: behind its last unit, or at its segment's start where it has none
  abbrev pub RunStands : List U → ℕ → ℕ → ℕ → ℕ → Type 0
  RunStands log s first count p = (count ≡ 0 → segment_start words seg log s ≡ Some p) ×
      (0 < count → p ≡ tail words seg (take (first + count) log))

  -- the k-th unit starts at this place
  abbrev pub UnitStarts : List U → ℕ → ℕ → Type 0
  UnitStarts log k p = (u : U) × (slice_get log k ≡ Some u) ×
      (p ≡ start_at seg (tail words seg (take k log)) (length (words u)))

  -- a run is of units that follow one another in the log, and begins in a segment up to the tail's
  pub record IsRun (log : List U) (r : Run U) : Type 0 where
    pub units : r.units ≡ take (length r.units) (drop r.first log)
    pub inside : r.first + length r.units ≤ length log
    pub segment : r.segment ≤ tail words seg log / seg

  -- an overrun in this segment may follow these items: it is the one where the run before stands, or where the next unit starts; or the one that was sought after an
  -- overrun, or the same again
  abbrev pub MayFollow : List U → ℕ → List (HistoryItem U) → Type 0
  MayFollow log a [] = ⊥
  MayFollow log a (UnitRun r ∷ is) = (p : ℕ) × (a ≡ p / seg) ×
      (RunStands log r.segment r.first (length r.units) p ⊎ UnitStarts log (r.first + length r.units) p)
  MayFollow log a (Overrun a' b' ∷ is) = (a ≡ a') ⊎ (b' ≤ a + seek_distance)

  -- a run goes on after these items, the newest of which is an overrun by the counter b: it begins four segments behind a counter that is no smaller, with the first unit
  -- of its segment, and what it missed lies between the run before and itself
  pub record RunGoesOn (most : ℕ) (log : List U) (r : Run U) (b : ℕ) (is : List (HistoryItem U)) : Type 0 where
    pub near : b ≤ r.segment + seek_distance
    pub announced : r.segment + seek_distance ≤ most
    pub number : r.first ≡ first_number log r.segment
    pub missed : r.missed + next_number is ≡ r.first

  -- a run may follow these items: the first begins with the first unit, and another after an overrun
  abbrev pub MayBegin : ℕ → List U → Run U → List (HistoryItem U) → Type 0
  MayBegin most log r [] = (r.segment ≡ 0) × (r.first ≡ 0) × (r.missed ≡ 0)
  MayBegin most log r (UnitRun q ∷ is) = ⊥
  MayBegin most log r (Overrun a b ∷ is) = RunGoesOn most log r b is

  -- the items, the newest first, may have been taken while no counter was above this one
  abbrev pub IsReadBack : ℕ → List U → List (HistoryItem U) → Type 0
  IsReadBack most log [] = Unit {0}
  IsReadBack most log (UnitRun r ∷ is) = IsRun log r × MayBegin most log r is × IsReadBack most log is
  IsReadBack most log (Overrun a b ∷ is) = (a + overrun_distance ≤ b) × (b ≤ most) × (last_seen is ≤ b) ×
      MayFollow log a is × IsReadBack most log is

  -- the items, the oldest first, are what a reader may have taken of a whole log
  abbrev pub IsReadHistory : List U → List (HistoryItem U) → Type 0
  IsReadHistory log items = (items ≢ []) × IsReadBack (tail words seg log / seg) log (reverse items)

-- the items, the oldest first, reach the tail of a log: the last is a run that ends with the log's last unit, or before the first where the log has none
pub record ReachesTail {U : Type 0} (log : List U) (items : List (HistoryItem U)) : Type 0 where
  pub before : List (HistoryItem U)
  pub run : Run U
  pub last : items ≡ before ++ UnitRun run ∷ []
  pub ends : run.first + length run.units ≡ length log

-- where the items, the oldest first, reach the tail of a log, the units that were taken and those that were missed add up to the log's length
abbrev pub AddUp : {U : Type 0} → List U → List (HistoryItem U) → Type 0
AddUp log items = ReachesTail log items → count_taken items + count_missed items ≡ length log
