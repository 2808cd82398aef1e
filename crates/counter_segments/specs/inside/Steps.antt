-- What holds while the passes are made, and while they are joined (this project's choice).
use Rattle.std.specs.Prelude.{◌≡◌, ℕ, ◌+◌, ◌<◌, List, [], length}
use Rattle.atomic_table.specs.Seated.{TableId}
use Rattle.atomic_table.specs.Table.{Me}
use Rattle.counter_segments.specs.declared.rule.View.{View}
use Rattle.counter_segments.specs.Sums.{CounterSet, PassSums, AreOf, total}
use Rattle.counter_segments.specs.inside.Rule.{sum_of}

-- a seat stands for all passes of these counters
pub record IsWhole (counters : CounterSet) (table : TableId) (v : View) : Type 0 where
  pub ours : table ≡ counters.table
  pub all : v.all ≡ counters.passes
  pub passes : v.passes ≡ counters.passes

-- a seat stands for the passes of these counters that are not in the rest, and says what these added
pub record IsJoined (counters : CounterSet) (whole rest : List PassSums) (table : TableId) (me : Me ℕ View) : Type 0 where
  pub ours : table ≡ counters.table
  pub idle : me.1 ≡ []
  pub all : me.0.all ≡ counters.passes
  pub some : 0 < me.0.passes
  pub passes : me.0.passes + length rest ≡ counters.passes
  pub sums : (which : ℕ) → sum_of which me.0 + total which rest ≡ total which whole
  pub are_of : AreOf counters rest
