use Rattle.vsl_file.proofs.EveryFileLemmas.{every_file_of}
use Rattle.vsl_file.proofs.laws.every_file.Goals as goal

pub returns : goal.returns
returns c = every_file_of
