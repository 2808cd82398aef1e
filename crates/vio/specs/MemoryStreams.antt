-- The standard streams of a world in memory (this project's choice).
use Rattle.std.specs.Prelude.{refl, ◌≡◌, ℕ, ◌+◌, ◌<◌, nat_lt, true}
use Rattle.std.proofs.Common.{lit<}
use Rattle.std.proofs.Math.Nat.{lt_of_lt_of_le, le-add_right}
use Rattle.std.proofs.lemmas.Bool.{lt-ltb}
use Rattle.vio.specs.declared.memory.MemWorld.{MemWorld}
use Rattle.vio.specs.Memory.{memory_seen}
use Rattle.vio.specs.World.{HasStreams}

-- a number below 3 is below 3 and more
pub below_more_than_three : (i n : ℕ) → i < 3 → nat_lt i (3 + n) ≡ true
below_more_than_three i n below = lt-ltb i (3 + n) (lt_of_lt_of_le below (le-add_right 3 n))

-- a world in memory has the standard streams, whatever was called
pub HasStreams-memory : (m : MemWorld) → HasStreams (memory_seen m)
HasStreams-memory m = record {
  input_given = below_more_than_three 0 _ (lit< tt);
  output_given = below_more_than_three 1 _ (lit< tt);
  error_given = below_more_than_three 2 _ (lit< tt);
  input = refl;
  output = refl;
  error = refl;
}
