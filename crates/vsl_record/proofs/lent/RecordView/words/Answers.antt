use Rattle.std.proofs.Common.{arith}
use Rattle.vsl_record.proofs.PayloadLemmas.{length-packed}
use Rattle.vsl_record.proofs.lent.RecordView.words.Goals as goal

pub returns-clause-words : goal.returns-clause-words
returns-clause-words c = λ vxid. grind (arith, length-packed c.args.self.now.payload)
