use Rattle.std.proofs.Common.{◌∙◌, sym, arith}
use Rattle.vsl_record.proofs.WritingLemmas.{behind_three}
use Rattle.vsl_record.proofs.lent.RecordView.word_at.Goals as goal

pub returns-in_default : goal.returns-in_default
returns-in_default c = rw c.payload.ensures.bytes at c.packed_word.ensures ∙ sym (behind_three _ _ _ _ c.args.place (omega (arith, c.in_default)))
