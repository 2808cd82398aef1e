-- Logs that are read back from their raw lines (varnishlog(1), "-g raw"; what raw lines don't tell is this project's choice).
use Rattle.std.specs.Prelude.{◌≡◌, ◌≢◌, ◌⊎◌, ℕ, ◌≤◌, true, List, [], ◌∷◌, length}
use Rattle.std.specs.List.{AllByRecursion}
use Rattle.vsl_tags.specs.Tags.{end_tag}
use Rattle.vsl_record.specs.declared.record_type.Record.{Record}
use Rattle.vsl_record.specs.Unit.{LogUnit, Log}
use Rattle.raw_records.specs.Gathered.{has_end}
use Rattle.traffic_feed.specs.Batches.{IsWithin, most_kept}

-- a payload that is printed as it is, without a byte below 32 or the byte 127, and that is kept whole
pub record IsPlainPayload (most : ℕ) (payload : List ℕ) : Type 0 where
  pub plain : AllByRecursion (λ b. (32 ≤ b) × (b ≢ 127)) payload
  pub short : length payload ≤ most

-- no record but the last is an End
abbrev pub OnlyLastEnds : List Record → Type 0
OnlyLastEnds [] = Unit {0}
OnlyLastEnds (rec ∷ []) = Unit {0}
OnlyLastEnds (rec ∷ next ∷ records) = (rec.tag ≢ end_tag) × OnlyLastEnds (next ∷ records)

-- a unit that is read back: it fits in a segment, its payloads are printed as they are, it has one record where its VXID is 0, and no
-- record but the last is an End
pub record IsReadBack (reclen seg : ℕ) (u : LogUnit) : Type 0 where
  pub within : IsWithin seg u
  pub payloads : AllByRecursion (λ rec. IsPlainPayload (most_kept reclen seg) rec.payload) u.records
  pub alone : u.vxid ≡ 0 → length u.records ≡ 1
  pub ends : OnlyLastEnds u.records

-- two units in a row are two batches: where they are of one VXID and one mark, it is 0 or the first has an End
abbrev pub ArePartedBy : LogUnit → LogUnit → Type 0
ArePartedBy u v = u.vxid ≡ v.vxid → u.mark ≡ v.mark → (u.vxid ≡ 0) ⊎ (has_end u ≡ true)

-- each two units in a row are two batches
abbrev pub AreBatches : Log → Type 0
AreBatches [] = Unit {0}
AreBatches (u ∷ []) = Unit {0}
AreBatches (u ∷ v ∷ units) = ArePartedBy u v × AreBatches (v ∷ units)
