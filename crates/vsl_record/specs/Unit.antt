-- Records, units and logs (vsl(7)).
use Rattle.std.specs.Prelude.{◌≡◌, ℕ, List}
use Rattle.vsl_tags.specs.Tags.{IsTag}
use Rattle.vsl_words.specs.declared.version.Version.TheVariants.{Two}
use Rattle.vsl_words.specs.Versions.{vxid_end_of}
use Rattle.vsl_record.specs.declared.mark.Mark.{Mark}
use Rattle.vsl_record.specs.declared.record_type.Record.{Record}
use Rattle.vsl_record.specs.Payload.{IsPayload}

-- one more than the highest VXID, 2^62 - 1; the bound is this project's choice
abbrev pub vxid_end : ℕ
vxid_end = vxid_end_of Two

-- a unit: what a worker writes at once, records of one VXID and one mark; what a unit must meet stands in `IsUnit`
pub record LogUnit : Type 0 where
  pub vxid : ℕ
  pub mark : Mark
  pub records : List Record

-- a log is the list of its units
abbrev pub Log : Type 0
Log = List LogUnit

-- a record of a unit of this mark: its tag is a tag, and its payload has at most 4,000 bytes
pub record IsRecordOf (mark : Mark) (rec : Record) : Type 0 where
  pub tag : IsTag rec.tag
  pub has_mark : rec.mark ≡ mark
  pub payload : IsPayload rec.payload
