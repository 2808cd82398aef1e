-- What a record tells beside itself.
use Rattle.std.specs.Prelude.{◌≡◌, ℕ, ◌==◌, ◌&&◌, not, Bool, false}
use Rattle.vsl_tags.specs.Tags.{begin_tag, link_tag, timestamp_tag, end_tag}
use Rattle.vsl_record.specs.declared.record_type.Record.{Record}
use Rattle.txn_rows.specs.declared.take.Told.{Told}
use Rattle.txn_rows.specs.declared.take.Told.TheVariants as told
use Rattle.txn_rows.specs.Claim.{claim_of}
use Rattle.txn_rows.specs.Time.{time_of}

-- a record tells this
abbrev pub Tells : Record → Told → Type 0
Tells rec (told.Begin claim) = (rec.tag ≡ begin_tag) × (claim ≡ claim_of rec.payload)
Tells rec (told.Link claim) = (rec.tag ≡ link_tag) × (claim ≡ claim_of rec.payload)
Tells rec (told.Time time) = (rec.tag ≡ timestamp_tag) × (time ≡ time_of rec.payload)
Tells rec told.Nothing = ((rec.tag == begin_tag) ≡ false) × ((rec.tag == link_tag) ≡ false) ×
    ((rec.tag == timestamp_tag) ≡ false)

-- whether a record of this tag tells nothing but itself
abbrev pub is_plain : ℕ → Bool
is_plain tag = not (tag == begin_tag) && not (tag == link_tag) && not (tag == timestamp_tag) && not (tag == end_tag)

-- whether a record tells nothing but itself
abbrev pub is_plain_record : Record → Bool
is_plain_record rec = is_plain rec.tag
