-- The words of a unit that was begun, and whether it has an End.
use Rattle.std.proofs.Common.{◌≡◌, ℕ, ◌+◌, ◌-◌, ◌*◌, ◌<◌, ◌≤◌, Bool, ◌==◌, ◌||◌, leb, List, [], ◌∷◌, ◌++◌, length, refl, sym, ap, ◌∙◌, arith}
use Rattle.std.proofs.Math.Bool.{or-false}
use Rattle.std.proofs.lemmas.List.{append-nil, length-append}
use Rattle.std.proofs.lemmas.List.Folds.{list_any-append}
use Rattle.ring_layout.specs.Places.{IsSegment}
use Rattle.vsl_tags.specs.Tags.{IsTag, end_tag}
use Rattle.vsl_record.specs.declared.record_type.Record.{Record}
use Rattle.vsl_record.specs.Payload.{IsPayload}
use Rattle.vsl_record.specs.Unit.{LogUnit, IsRecordOf, vxid_end}
use Rattle.vsl_record.specs.Words.{record_words, unit_words, most_words}
use Rattle.vsl_record.proofs.Steps.{all_append}
use Rattle.raw_records.specs.Lines.{LoggedRecord}
use Rattle.raw_records.specs.Gathered.{unit_of, with_record}
use Rattle.raw_records.proofs.GatheredLemmas.{record_size, size_more}
use Rattle.traffic_feed.specs.Batches.{has_room}
use Rattle.traffic_feed.specs.inside.Gathering.{IsBegunUnit}

pub unit_size : (vxid : ℕ) (rec : Record) → length (unit_words (unit_of (record { vxid = vxid; rec = rec }))) ≡ 1 + length (record_words vxid rec)
unit_size vxid rec = omega (arith, ap length (append-nil (record_words vxid rec)))

-- room for a record, by the numbers of words
pub has_room_is : (u : LogUnit) (l : LoggedRecord) (words more seg : ℕ) → words ≡ length (unit_words u) → more ≡ length (record_words u.vxid l.rec) → leb (words + more) seg ≡ has_room seg u l
has_room_is u l words more seg size size_of = ap (λ n. leb n seg) (omega (arith, size_more u l.rec))

-- whether a record is an End
abbrev is_end : Record → Bool
is_end rec = rec.tag == end_tag

-- one record is a unit
pub IsBegunUnit-one : (vxid : ℕ) (rec : Record) (words : ℕ) (ends : Bool) (items : List Record) → vxid < vxid_end → IsTag rec.tag → IsPayload rec.payload → words ≡ length (record_words vxid rec) → ends ≡ is_end rec
    → items ≡ rec ∷ [] → IsBegunUnit (record { vxid = vxid; mark = rec.mark; records = items }) (1 + words) ends
IsBegunUnit-one vxid rec words ends items in_range tag payload size is only = rw only (record {
  unit = record { vxid = in_range; some = omega arith; records = (record { tag = tag; has_mark = refl; payload = payload }, tt); size = omega (arith, payload.short, record_size vxid rec, unit_size vxid rec) };
  size = omega (arith, unit_size vxid rec);
  ended = is ∙ sym (or-false (is_end rec));
})

-- a record more
pub IsBegunUnit-more : (u : LogUnit) (rec : Record) (words more : ℕ) (has_end ends : Bool) (items : List Record) → IsBegunUnit u words has_end → IsTag rec.tag → IsPayload rec.payload → rec.mark ≡ u.mark
    → length (unit_words (with_record u rec)) ≤ most_words → more ≡ length (record_words u.vxid rec) → ends ≡ is_end rec → items ≡ u.records ++ rec ∷ [] → IsBegunUnit (record u { records = items }) (words + more) (has_end || ends)
IsBegunUnit-more u rec words more has_end ends items is tag payload mark few size is_end_of all = rw all (record {
  unit = record {
    vxid = is.unit.vxid;
    some = omega (arith, length-append u.records (rec ∷ []));
    records = all_append (IsRecordOf u.mark) u.records (rec ∷ []) is.unit.records (record { tag = tag; has_mark = mark; payload = payload }, tt);
    size = few;
  };
  size = omega (arith, size_more u rec, is.size);
  ended = rw (is.ended, is_end_of, list_any-append, or-false) refl;
})

-- a record with no more of its payload than is kept fits in a segment
pub one_fits : (vxid : ℕ) (rec : Record) (most seg : ℕ) → IsSegment seg → most ≤ 4 * (seg - 4) → length rec.payload ≤ most → length (unit_words (unit_of (record { vxid = vxid; rec = rec }))) ≤ seg
one_fits vxid rec most seg segment fits few = omega (arith, record_size vxid rec, unit_size vxid rec)
