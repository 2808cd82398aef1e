use Rattle.std.proofs.Common.{◌==◌, Some, None}
use Rattle.ncsa_format.proofs.CutLemmas.{cut_at}
use Rattle.ncsa_format.proofs.cut.cut.Goals as goal

pub returns-in-Some : goal.returns-in-Some
returns-in-Some c = cut_at (λ b. b == c.args.byte) c.args.text.now _ _ (Some c.in-Some.at) c.in-Some.ensures c.split_at.ensures.front c.split_at.ensures.back

pub returns-in-None : goal.returns-in-None
returns-in-None c = cut_at (λ b. b == c.args.byte) c.args.text.now _ _ None c.in-None.ensures c.split_at-in-None.ensures.front c.split_at-in-None.ensures.back
