-- what was read so far was added, and nothing was read where so many bytes were held
use Rattle.std.proofs.Common.{◌≡◌, ◌≤◌, ◌+◌, ◌-◌, length, max}
use Rattle.vsl_file.specs.inside.ReaderSteps.{Filled}
use Rattle.vsl_file.proofs.filling.fill_to.Given as goal

abbrev pub invariant-loop-buffer : goal.invariant-loop-buffer
invariant-loop-buffer g l = record {
  filled : Filled l.handle l.initial.buffer.items l.buffer.items (g.W.World.seen l.initial.world) (g.W.World.seen l.world);
  within : length l.buffer.items ≤ l.most;
  held : l.size ≤ length l.initial.buffer.items → l.buffer.items ≡ l.initial.buffer.items;
  unread : l.size ≤ length l.initial.buffer.items → g.W.World.seen l.world ≡ g.W.World.seen l.initial.world;
  bound : length l.buffer.items ≤ max (length l.initial.buffer.items) (l.size + 65535);
}

abbrev pub decreases-loop-buffer : goal.decreases-loop-buffer
decreases-loop-buffer g l = l.size - length l.buffer.items
