-- the records so far were looked at
use Rattle.std.proofs.Common.{length}
use Rattle.vsl_record.specs.Words.{words_in}
use Rattle.vsl_record.proofs.LookLemmas.{Looked}
use Rattle.vsl_record.proofs.reading.look_at_records.Given as goal

abbrev pub invariant-loop-head : goal.invariant-loop-head
invariant-loop-head l = Looked l.version l.id l.size l.block l.entries.items l.left

abbrev pub decreases-loop-head : goal.decreases-loop-head
decreases-loop-head l = length (words_in l.left)
