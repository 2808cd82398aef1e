-- Counters that several passes add to, and what contracts see of them (this project's choice).
use Rattle.std.specs.Prelude.{◌≡◌, ℕ, ◌+◌, ◌^◌, List, map, replicate, slice_index, slice_set, sum_by}
use Rattle.std.specs.List.{AllByRecursion, range_with_len}
use Rattle.atomic_table.specs.Seated.{TableId}

-- how many counters there are
abbrev pub counter_count : ℕ
counter_count = 21

-- how many passes there may be
abbrev pub most_passes : ℕ
most_passes = 17

-- the most that a pass may add to a counter, in all
abbrev pub ceiling : ℕ
ceiling = 2 ^ 56

-- what contracts see of counters: which table has them, and how many passes they have
pub record CounterSet : Type 0 where
  pub table : TableId
  pub passes : ℕ

-- what contracts see of a pass: of which counters it is, and what it added to each. Each writer has one: sixteen feeds,
-- and the requests that are made up
pub record PassSums : Type 0 where
  pub counters : CounterSet
  pub sums : List ℕ

-- a pass of these counters that added nothing
abbrev pub new_pass : CounterSet → PassSums
new_pass counters = record { counters = counters; sums = replicate counter_count 0 }

-- what a pass added to a counter
abbrev pub own_sum : ℕ → PassSums → ℕ
own_sum which pass = slice_index pass.sums which

-- the pass when it has added so much more to a counter
abbrev pub with_added : ℕ → ℕ → PassSums → PassSums
with_added which n pass = record pass { sums = slice_set pass.sums which (own_sum which pass + n) }

-- each of the passes is of these counters
abbrev pub AreOf : CounterSet → List PassSums → Type 0
AreOf counters passes = AllByRecursion (λ pass. pass.counters ≡ counters) passes

-- what the passes added to a counter, together
abbrev pub total : ℕ → List PassSums → ℕ
total which passes = sum_by (own_sum which) passes

-- what the passes added to each counter, together
abbrev pub totals : List PassSums → List ℕ
totals passes = map (λ which. total which passes) (range_with_len 0 counter_count)
