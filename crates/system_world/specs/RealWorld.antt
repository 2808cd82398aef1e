-- What the system's files and streams tell: no bytes, and one count for all faults (this project's choice).
use Rattle.std.specs.Prelude.{refl, ℕ, ◌+◌, true, false, None, nat_lt, length}
use Rattle.std.proofs.Common.{lit<}
use Rattle.vio.specs.MemoryStreams.{below_more_than_three}
use Rattle.vio.specs.World.{Seen, HasStreams}
use Rattle.system_world.specs.declared.real_world.RealWorld.{RealWorld}

-- what the system tells where so many files were opened or created and so many calls failed. Each handle has each name,
-- because none is kept, and the one count of faults is that of each name: a fault of any handle is one of the name that
-- is asked for
abbrev pub seen_after : ℕ → ℕ → Seen
seen_after opened failed = record {
  held = λ name. None;
  lacks = λ name. false;
  left = λ h. None;
  written = λ h. None;
  faults = λ k name. failed;
  names = λ k h name. true;
  given = λ h. nat_lt h (3 + opened);
}

-- what the system tells through a world
abbrev pub real_seen : RealWorld → Seen
real_seen world = seen_after (length world.files.items) world.faults

-- the system has the standard streams, whatever was called
pub HasStreams-real : (world : RealWorld) → HasStreams (real_seen world)
HasStreams-real world = record {
  input_given = below_more_than_three 0 (length world.files.items) (lit< tt);
  output_given = below_more_than_three 1 (length world.files.items) (lit< tt);
  error_given = below_more_than_three 2 (length world.files.items) (lit< tt);
  input = refl;
  output = refl;
  error = refl;
}
