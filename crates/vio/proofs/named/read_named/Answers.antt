use Rattle.std.proofs.Common.{Err, ap}
use Rattle.vio.proofs.ReadLemmas.{called_failed, called_short}
use Rattle.vio.proofs.named.read_named.Goals as goal

pub returns-in-Err-Failed-read_whole-clause-stops : goal.returns-in-Err-Failed-read_whole-clause-stops
returns-in-Err-Failed-read_whole-clause-stops g c = called_failed c.in-Ok.ensures.ok c.in-Err-Failed-read_whole.ensures.err (c.in-Err-Failed-read_whole.ensures.failed (ap (λ f. Err f) c.in-Err-Failed-read_whole.field-0-is))

pub returns-in-Err-NoMemory-read_whole-clause-lacks : goal.returns-in-Err-NoMemory-read_whole-clause-lacks
returns-in-Err-NoMemory-read_whole-clause-lacks g c = called_short c.in-Ok.ensures.ok c.in-Err-NoMemory-read_whole.ensures.err
