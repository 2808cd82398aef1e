use Rattle.std.proofs.Common.{◌∙◌}
use Rattle.vsl_top.proofs.HashingLemmas.{eight_bytes}
use Rattle.vsl_top.proofs.hashing.KeyHasherHasher.write.Goals as goal

pub loop-left-preserved : goal.loop-left-preserved
loop-left-preserved c = eight_bytes c.loop-left.self c.loop-left.left.now _ _ c.in-len8-up.len_at_least c.from_le_bytes-word.ensures c.halves_joined-self.ensures ∙ c.loop-left.invariant
