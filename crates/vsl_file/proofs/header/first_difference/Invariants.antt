-- the header stands there so far
use Rattle.std.proofs.Common.{◌≡◌, ◌≤◌, length, take}
use Rattle.vsl_file.proofs.header.first_difference.Given as goal

abbrev pub invariant-loop-at : goal.invariant-loop-at
invariant-loop-at l = record {
  same : take l.at l.bytes ≡ take l.at l.header;
  within : l.at ≤ length l.bytes;
}
