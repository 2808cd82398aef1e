use Rattle.vsl_file.proofs.FileLemmas.{one_content_of}
use Rattle.vsl_file.proofs.laws.one_content.Goals as goal

pub returns : goal.returns
returns c = one_content_of
