use Rattle.vsl_file.proofs.FileLemmas.{whole_units_of}
use Rattle.vsl_file.proofs.laws.whole_units.Goals as goal

pub returns : goal.returns
returns c = whole_units_of
