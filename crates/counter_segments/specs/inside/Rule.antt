-- The rule of the shared words: each is the sum of what all seats say that they added there (this project's choice). A seat stands for some of the passes. One that was
-- joined to another is left with none of them, and with no sums.
use Rattle.std.specs.Prelude.{◌≡◌, ℕ, ◌+◌, ◌-◌, ◌*◌, ◌<◌, ◌≤◌, List, [], ◌∷◌, length, replicate, slice_index, slice_set, sum_by}
use mathlib.Core.Option.{some}
use lib.ListN.{get_elem?}
use Rattle.atomic_table.specs.Table.{State, Me, Step}
use Rattle.counter_segments.specs.declared.rule.View.{View}
use Rattle.counter_segments.specs.Sums.{counter_count, most_passes, ceiling}

-- for how many passes a seat stands
abbrev pub passes_of : View → ℕ
passes_of v = v.passes

-- what a seat says that it added to a counter
abbrev pub sum_of : ℕ → View → ℕ
sum_of which v = slice_index v.sums which

-- what a seat says is so: how many passes there are, where it stands for one, and of each counter no more than its passes may add
pub record IsShare (passes : ℕ) (v : View) : Type 0 where
  pub all : 0 < v.passes → v.all ≡ passes
  pub low : (which : ℕ) → sum_of which v ≤ ceiling * v.passes

-- each word is the sum of what all seats say that they added there, and the seats stand for all passes together
pub record IsSummed (passes : ℕ) (s : State ℕ View) : Type 0 where
  pub few : passes ≤ most_passes
  pub wide : length s.words ≡ counter_count
  pub words : (which : ℕ) → which < counter_count → slice_index s.words which ≡ sum_by (sum_of which) s.views
  pub whole : sum_by passes_of s.views ≡ passes
  pub shares : (id : ℕ) (v : View) → get_elem? s.views id ≡ some v → IsShare passes v

-- what the first seat says: it stands for all passes, and added nothing
abbrev pub first_view : ℕ → View
first_view passes = record { all = passes; passes = passes; sums = replicate counter_count 0 }

-- what a seat says when it has added so much more to a counter
abbrev pub with_more : ℕ → ℕ → View → View
with_more which n v = record v { sums = slice_set v.sums which (sum_of which v + n) }

-- what a seat says when it has given away one pass
abbrev pub without_one : View → View
without_one v = record v { passes = v.passes - 1 }

-- what the new seat says, which has that pass and added nothing
abbrev pub one_of : View → View
one_of v = record { all = v.all; passes = 1; sums = replicate counter_count 0 }

-- two lists of sums, added number by number
abbrev pub plus : List ℕ → List ℕ → List ℕ
plus [] ys = ys
plus (x ∷ xs) [] = x ∷ xs
plus (x ∷ xs) (y ∷ ys) = (x + y) ∷ plus xs ys

-- what a seat says when it has taken in what another stands for
abbrev pub both_views : View → View → View
both_views v w = record { all = v.all; passes = v.passes + w.passes; sums = plus v.sums w.sums }

-- what that other is left with
abbrev pub no_view : View
no_view = record { all = 0; passes = 0; sums = [] }

-- a step that adds to a counter: the seat says so
abbrev pub Adds : Step ℕ → Me ℕ View → ℕ → Me ℕ View → Type 0
Adds st me found after = after ≡ (with_more st.word st.first me.0, me.1)

-- a step that looks at a counter finds what the seat added, and no more on top than the other passes may add
abbrev pub Looks : Step ℕ → Me ℕ View → ℕ → Me ℕ View → Type 0
Looks st me found after =
    (after ≡ me) × (sum_of st.word me.0 ≤ found) × (found ≤ sum_of st.word me.0 + ceiling * (me.0.all - me.0.passes))

-- a seat that added nothing
abbrev pub IsFresh : Me ℕ View → Type 0
IsFresh me = (me.1 ≡ []) × (me.0.sums ≡ replicate counter_count 0)

-- the seat of one pass, which added these sums
abbrev pub IsOnePass : Me ℕ View → List ℕ → Type 0
IsOnePass me sums = (me.1 ≡ []) × (me.0.passes ≡ 1) × (me.0.sums ≡ sums) × ((which : ℕ) → slice_index sums which ≤ ceiling)
