-- How many words records and their units have.
use Rattle.std.proofs.Common.{◌≡◌, ℕ, ◌+◌, ◌/◌, [], ◌∷◌, ◌++◌, length, ap, arith}
use Rattle.std.specs.List.{flat_map}
use Rattle.std.proofs.lemmas.List.{append-nil, length-append}
use Rattle.std.proofs.lemmas.List.Concat.{flat_map-append}
use Rattle.vsl_record.specs.declared.record_type.Record.{Record}
use Rattle.vsl_record.specs.Unit.{LogUnit}
use Rattle.vsl_record.specs.Words.{record_words, unit_words}
use Rattle.vsl_record.proofs.PayloadLemmas.{length-packed}
use Rattle.raw_records.specs.Gathered.{with_record}

-- how many words a record has
pub record_size : (vxid : ℕ) (rec : Record) → length (record_words vxid rec) ≡ 3 + (length rec.payload + 3) / 4
record_size vxid rec = omega (arith, length-packed rec.payload)

-- the words of a unit with a record more
pub size_more : (u : LogUnit) (rec : Record) → length (unit_words (with_record u rec)) ≡ length (unit_words u) + length (record_words u.vxid rec)
size_more u rec = omega (
  arith,
  ap length (flat_map-append (record_words u.vxid) u.records (rec ∷ [])),
  length-append (flat_map (record_words u.vxid) u.records) (record_words u.vxid rec ++ []),
  ap length (append-nil (record_words u.vxid rec)),
)
