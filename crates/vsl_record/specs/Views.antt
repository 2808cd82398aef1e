-- What a view of a unit lends (this project's choice). Contracts see a view as the words from which it lends.
use Rattle.std.specs.Prelude.{◌≡◌, ℕ, ◌<◌, List, ◌++◌}
use Rattle.vsl_record.specs.declared.record_type.Record.{Record}
use Rattle.vsl_record.specs.Unit.{LogUnit, IsRecordOf, vxid_end}
use Rattle.vsl_record.specs.Words.{IsUnit, unit_words, record_words}

-- these are the words of a unit
pub record Spells (words : List ℕ) (u : LogUnit) : Type 0 where
  pub unit : IsUnit u
  pub spelled : words ≡ unit_words u

-- words begin with those of a record of a unit, and then come these
pub record StartsWith (words : List ℕ) (rec : Record) (rest : List ℕ) : Type 0 where
  pub vxid : ℕ
  pub in_range : vxid < vxid_end
  pub is_record : IsRecordOf rec.mark rec
  pub parts : words ≡ record_words vxid rec ++ rest
