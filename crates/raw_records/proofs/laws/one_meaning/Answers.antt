use Rattle.raw_records.proofs.LineLemmas.{one_meaning}
use Rattle.raw_records.proofs.laws.one_meaning.Goals as goal

pub returns : goal.returns
returns c = one_meaning
