use Rattle.std.proofs.Common.{refl}
use Rattle.vsl_top.specs.inside.Hashing.{halves_joined}
use Rattle.vsl_top.proofs.hashing.halves_joined.Goals as goal

pub returns : goal.returns
unfolding halves_joined
returns c = refl
