use Rattle.std.proofs.Common.{refl}
use Rattle.vsl_file.proofs.FileLemmas.{ends_whole}
use Rattle.vsl_file.proofs.laws.written_reads_back.Goals as goal

pub returns : goal.returns
returns c = λ v units all small. ends_whole v _ units all refl small
