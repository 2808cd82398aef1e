-- The table of the counters, column by column.
use Rattle.std.proofs.Common.{◌≡◌, ℕ, ◌<◌, List, [], ◌++◌, slice_index_or, map, Bor, sym}
use Rattle.std.proofs.Math.ListN as whole
use Rattle.std.proofs.lemmas.List.{get_or-map}
use Rattle.std.specs.Prelude.{codes}
use Rattle.counter_segments.specs.Sums.{counter_count}
use Rattle.vsl_stat.specs.Report.{Counter, counter, counter_table, counter_of, name_of}

-- a row of the table that the code has
abbrev pub Row : Type 0
Row = Bor (List ℕ) × Bor (List ℕ)

-- the first text of a row, in the column of all
pub first_at : (rows : List Row) (i : ℕ) (none : Row) → (slice_index_or rows i none).0.now ≡ slice_index_or (map (λ (r : Row). r.0.now) rows) i none.0.now
first_at rows i none = sym (whole.get_or-map (λ (r : Row). r.0.now) rows i none)

-- the second text of a row, in the column of all
pub second_at : (rows : List Row) (i : ℕ) (none : Row) → (slice_index_or rows i none).1.now ≡ slice_index_or (map (λ (r : Row). r.1.now) rows) i none.1.now
second_at rows i none = sym (whole.get_or-map (λ (r : Row). r.1.now) rows i none)

-- a counter's name, in the column of all
pub name_at : (n : ℕ) (none : List ℕ) → n < counter_count → slice_index_or (map (λ (c : Counter). codes "MAIN." ++ c.name) counter_table) n none ≡ name_of n
name_at n none below = get_or-map (λ (c : Counter). codes "MAIN." ++ c.name) counter_table n (counter [] []) none below

-- what a counter counts, in the column of all
pub description_at : (n : ℕ) (none : List ℕ) → n < counter_count → slice_index_or (map (λ (c : Counter). c.description) counter_table) n none ≡ (counter_of n).description
description_at n none below = get_or-map (λ (c : Counter). c.description) counter_table n (counter [] []) none below
