use Rattle.vsl_record.proofs.FitsLemmas.{old_fits}
use Rattle.vsl_record.proofs.laws.old_units_fit.Goals as goal

pub returns : goal.returns
returns c = old_fits
