-- the records so far are written
use Rattle.std.proofs.Common.{take}
use Rattle.std.specs.List.{flat_map}
use Rattle.vsl_record.specs.Words.{record_words, word_bytes}
use Rattle.vsl_record.specs.inside.Writing.{Wrote}
use Rattle.vsl_record.proofs.writing.write_records.Given as goal

abbrev pub invariant-loop-i : goal.invariant-loop-i
invariant-loop-i l = Wrote l.at l.place (word_bytes (flat_map (record_words l.vxid) (take l.i l.records))) l.fn.out l.out
