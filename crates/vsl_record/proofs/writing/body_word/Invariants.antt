-- the word is among those of the records that are left
use Rattle.std.proofs.Common.{◌≡◌, ◌<◌, length, drop, get_or}
use Rattle.std.specs.List.{flat_map}
use Rattle.vsl_record.specs.Words.{record_words}
use Rattle.vsl_record.proofs.writing.body_word.Given as goal

abbrev pub invariant-loop-i : goal.invariant-loop-i
invariant-loop-i l = record {
  same : get_or (flat_map (record_words l.vxid) (drop l.i l.records)) l.left 0 ≡ get_or (flat_map (record_words l.vxid) l.records) l.place 0;
  inside : l.left < length (flat_map (record_words l.vxid) (drop l.i l.records));
}
