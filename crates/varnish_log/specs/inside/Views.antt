-- What reading finds at the beginning of bytes.
use Rattle.std.specs.Prelude.{◌≡◌, ◌≢◌, ◌⊎◌, ℕ, ◌+◌, ◌<◌, ◌≤◌, ◌/◌, ◌%◌, ◌^◌, ◌==◌, nat_le, nat_lt, if◌then◌else◌, true, false, List, ◌++◌, length, drop, Option, Some, None, Ok, Err}
use Rattle.std.specs.Int.{w32, from_le_bytes}
use Rattle.vsl_record.specs.declared.mark.Mark.{Mark}
use Rattle.vsl_record.specs.declared.mark.Mark.TheVariants.{Client, Backend, Plain}
use Rattle.vsl_record.specs.Payload.{most_payload}
use Rattle.vsl_record.specs.Unit.{vxid_end}
use Rattle.raw_records.specs.Lines.{BlankLine, CommentLine, RecordLine}
use Rattle.varnish_log.specs.declared.entry.Next.{Next}
use Rattle.varnish_log.specs.declared.entry.Next.TheVariants as entries
use Rattle.varnish_log.specs.declared.entry.Entry.{Entry as EntryView}
use Rattle.varnish_log.specs.declared.entry.Words.{Words}
use Rattle.varnish_log.specs.declared.form.BinaryForm.{BinaryForm}
use Rattle.varnish_log.specs.declared.form.How.{How}
use Rattle.varnish_log.specs.declared.form.LogForm.{LogForm}
use Rattle.varnish_log.specs.declared.loss.Counts.{Counts}
use Rattle.varnish_log.specs.declared.loss.Loss.TheVariants.{LongPayload}
use Rattle.varnish_log.specs.declared.parts.NextPart.{NextPart}
use Rattle.varnish_log.specs.declared.parts.NextPart.TheVariants as nexts
use Rattle.varnish_log.specs.Counting.{with_loss, with_part}
use Rattle.varnish_log.specs.Entries.{Entry, IsEntry, entry_bytes, head_size, stops_early}
use Rattle.varnish_log.specs.Forms.{layout}
use Rattle.varnish_log.specs.Parts.{IsPart, Said}
use Rattle.varnish_log.specs.Taken.{StopsAs, loss_of}

-- the numbers of a head that begins bytes
pub record AreWords (form : BinaryForm) (words : Words) (bytes : List ℕ) : Type 0 where
  pub enough : head_size form ≤ length bytes
  pub few : words.first < 2 ^ 32
  pub first : words.first ≡ from_le_bytes w32 bytes
  pub id : words.id ≡ from_le_bytes (layout form).width (drop 4 bytes)

-- the mark of a number of VXID and mark, where it has no two, and the VXID is in range
unfoldable pub mark_of_id : BinaryForm → ℕ → Option Mark
mark_of_id form id =
    if nat_le (layout form).vxid_end (id % (layout form).client) then None else
    (if id / (layout form).client == 0 then Some Plain else
    (if id / (layout form).client == 1 then Some Client else
    (if id / (layout form).client == 2 then Some Backend else None)))

-- a record as it was read, with what fills its last word
abbrev pub entry_of : EntryView → List ℕ → Entry
entry_of v filling = record { number = v.number; vxid = v.vxid; mark = v.mark; bytes = v.bytes.now; filling = filling }

-- the bytes of no record begin them
abbrev pub BeginsNoEntry : BinaryForm → List ℕ → Type 0
BeginsNoEntry form bytes = (e : Entry) (more : List ℕ) → IsEntry form e → bytes ≢ entry_bytes form e ++ more

-- what begins the bytes was found
abbrev pub IsNext : BinaryForm → Next → List ℕ → Type 0
IsNext form (entries.Entry v rest) bytes =
    (filling : List ℕ) × IsEntry form (entry_of v filling) × (bytes ≡ entry_bytes form (entry_of v filling) ++ rest.now)
IsNext form entries.Short bytes = BeginsNoEntry form bytes × (stops_early form bytes ≡ true)
IsNext form entries.Damaged bytes = BeginsNoEntry form bytes × (stops_early form bytes ≡ false)

-- what a part says that is this record
abbrev pub says_record : ℕ → ℕ → Mark → List ℕ → Said
says_record vxid tag mark payload =
    Ok (RecordLine (record { vxid = vxid; rec = record { tag = tag; mark = mark; payload = payload } }))

-- a part that says this begins the bytes, and this follows
abbrev pub IsNextPart : LogForm → List ℕ → Said → List ℕ → Type 0
IsNextPart form bytes said rest = (part : List ℕ) × IsPart form part said × (bytes ≡ part ++ rest)

-- a record has a VXID in range
abbrev pub IsSaidInRange : Said → Type 0
IsSaidInRange (Ok (RecordLine l)) = l.vxid < vxid_end
IsSaidInRange (Ok BlankLine) = Unit {0}
IsSaidInRange (Ok CommentLine) = Unit {0}
IsSaidInRange (Err loss) = Unit {0}

-- how many bytes a part has at least
abbrev pub room_of : Said → ℕ
room_of (Ok (RecordLine l)) = 8 + length l.rec.payload
room_of (Ok BlankLine) = 0
room_of (Ok CommentLine) = 0
room_of (Err loss) = 0

-- the counts with a record more, of such a payload
abbrev pub with_record : ℕ → Counts → Counts
with_record size counts = if nat_lt most_payload size then with_loss LongPayload (with_part counts)
    else with_part counts

-- a part says nothing
abbrev pub SaysNothing : Said → Type 0
SaysNothing said = (said ≡ Ok BlankLine) ⊎ (said ≡ Ok CommentLine)

-- what comes next of a log that goes on with these bytes was found
abbrev pub IsStep : How → List ℕ → NextPart → Type 0
IsStep how bytes (nexts.Record vxid mark tag payload behind) =
    IsNextPart how.form bytes (says_record vxid tag mark payload.now) behind.now ×
    (how.strict ≡ true → loss_of (says_record vxid tag mark payload.now) ≡ None)
IsStep how bytes (nexts.Nothing behind) = (said : Said) × SaysNothing said × IsNextPart how.form bytes said behind.now
IsStep how bytes (nexts.LeftOut loss behind) = IsNextPart how.form bytes (Err loss) behind.now × (how.strict ≡ false)
IsStep how bytes (nexts.Stop stop) = StopsAs how stop bytes
