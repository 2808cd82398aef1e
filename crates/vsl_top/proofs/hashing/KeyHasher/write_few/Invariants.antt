-- fewer than eight bytes are left, and are fed to the hasher that took in those before them
use Rattle.std.proofs.Common.{◌≡◌, ◌<◌, length}
use Rattle.vsl_top.specs.inside.Hashing.{fed}
use Rattle.vsl_top.proofs.hashing.KeyHasher.write_few.Given as goal

abbrev pub invariant-loop-left : goal.invariant-loop-left
invariant-loop-left l = record {
  few : length l.left < 8;
  fed : fed l.self l.left ≡ fed l.initial.self l.bytes;
}

abbrev pub decreases-loop-left : goal.decreases-loop-left
decreases-loop-left l = length l.left
