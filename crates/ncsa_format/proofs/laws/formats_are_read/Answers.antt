-- What a text is read as is what it is.
use Rattle.std.proofs.Common.{length, arith}
use Rattle.ncsa_format.proofs.FormatLemmas.{fault_is, format_is_read, is_fault, read_is_format}
use Rattle.ncsa_format.proofs.ReadLemmas.{formatter_reads}
use Rattle.ncsa_format.proofs.WrittenLemmas.{formatter_writes}
use Rattle.ncsa_format.proofs.laws.formats_are_read.Goals as goal

pub returns-clause-pieces : goal.returns-clause-pieces
returns-clause-pieces c = λ text pieces. (
  λ is. format_is_read formatter_reads pieces (length text) text (omega arith) is,
  λ read. read_is_format formatter_writes (length text) text pieces read,
)

pub returns-clause-fault : goal.returns-clause-fault
returns-clause-fault c = λ text at. (λ is. is_fault formatter_reads formatter_writes text at is, λ read. fault_is formatter_reads formatter_writes text at read)
