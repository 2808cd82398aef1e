-- what is left is fed to the hasher that took in the bytes before it
use Rattle.std.proofs.Common.{◌≡◌, length}
use Rattle.vsl_top.specs.inside.Hashing.{fed}
use Rattle.vsl_top.proofs.hashing.KeyHasherHasher.write.Given as goal

abbrev pub invariant-loop-left : goal.invariant-loop-left
invariant-loop-left l = fed l.self l.left ≡ fed l.initial.self l.bytes

abbrev pub decreases-loop-left : goal.decreases-loop-left
decreases-loop-left l = length l.left
