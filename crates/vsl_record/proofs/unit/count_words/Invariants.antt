-- the words of the records so far are counted, and their tags and payloads are known
use Rattle.std.proofs.Common.{◌≡◌, ℕ, ◌+◌, ◌-◌, ◌^◌, min, length, take}
use Rattle.std.specs.List.{All, flat_map}
use Rattle.vsl_tags.specs.Tags.{IsTag}
use Rattle.vsl_record.specs.Payload.{IsPayload}
use Rattle.vsl_record.specs.Words.{record_words}
use Rattle.vsl_record.proofs.unit.count_words.Given as goal

abbrev pub invariant-loop-i : goal.invariant-loop-i
invariant-loop-i l = record {
  words : (vxid : ℕ) → l.words ≡ min (1 + length (flat_map (record_words vxid) (take l.i l.records))) (2 ^ 64 - 1);
  tags : All (λ r. IsTag r.tag) (take l.i l.records);
  payloads : All (λ r. IsPayload r.payload) (take l.i l.records);
}
