use Rattle.vsl_record.proofs.UnitReadingLemmas.{unit_prefix_free}
use Rattle.vsl_record.proofs.laws.one_spelling.Goals as goal

pub returns : goal.returns
returns c = unit_prefix_free
