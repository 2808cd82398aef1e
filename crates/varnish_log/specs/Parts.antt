-- The parts of a log and what they say: the records of Varnish's binary log, or the lines of a text as its varnishlog
-- prints it with `-g raw` (varnishlog(1), "-w" and "-g"; what is left out is this project's choice).
use Rattle.std.specs.Prelude.{◌≡◌, ◌≢◌, ℕ, ◌-◌, ◌==◌, ◌||◌, nat_lt, if◌then◌else◌, Bool, List, [], ◌∷◌, ◌++◌, take, length, slice_index_or, Option, Some, None, Result, Ok, Err}
use Rattle.std.specs.Str.Lines.{strip_carriage_return}
use Rattle.raw_records.specs.declared.line.LineFault.{LineFault}
use Rattle.raw_records.specs.declared.line.LineFault.TheVariants as faults
use Rattle.raw_records.specs.Lines.{Line, RecordLine, IsLine, IsRefused, HasNoFeed, line_feed}
use Rattle.varnish_log.specs.declared.form.BinaryForm.{BinaryForm}
use Rattle.varnish_log.specs.declared.form.LogForm.{LogForm}
use Rattle.varnish_log.specs.declared.form.LogForm.TheVariants.{Binary, Text}
use Rattle.varnish_log.specs.declared.loss.Loss.{Loss}
use Rattle.varnish_log.specs.declared.loss.Loss.TheVariants.{UnknownTag, OtherVxid, OtherGrouping, OtherForm}
use Rattle.varnish_log.specs.Entries.{Entry, IsEntry, entry_bytes, stops_early}
use Rattle.varnish_log.specs.Tags.{has_no_text, tag_at}

-- what a part says: what a line of a listing means, or why it is left out
abbrev pub Said : Type 0
Said = Result Line Loss

-- ---- of a binary log

-- a text without the zero byte at its end, if it has one
abbrev pub without_zero : List ℕ → List ℕ
without_zero bytes = if slice_index_or bytes (length bytes - 1) 1 == 0 then take (length bytes - 1) bytes else bytes

-- what the bytes of a record of this tag are: all but that one, or all where it has no text
abbrev pub text_of : ℕ → List ℕ → List ℕ
text_of tag bytes = if has_no_text tag then bytes else without_zero bytes

-- what a record says that has this tag of this project, or none
abbrev pub said_with : Entry → Option ℕ → Said
said_with e None = Err UnknownTag
said_with e (Some tag) =
    Ok (RecordLine (record { vxid = e.vxid; rec = record { tag = tag; mark = e.mark; payload = text_of tag e.bytes } }))

-- what a record says in a log of this form
abbrev pub said_of : BinaryForm → Entry → Said
said_of form e = said_with e (tag_at form e.number)

-- ---- of a text

-- whether a line begins as those of other groupings: with `*` or `-`
abbrev pub is_grouped : List ℕ → Bool
is_grouped line = (slice_index_or line 0 0 == 42) || (slice_index_or line 0 0 == 45)

-- what is left out of a line that means nothing
abbrev pub loss_for : List ℕ → LineFault → Loss
loss_for line faults.OtherForm = if is_grouped line then OtherGrouping else OtherForm
loss_for line faults.OtherVxid = OtherVxid
loss_for line faults.UnknownTag = UnknownTag

-- what a line says
abbrev pub LineSays : List ℕ → Said → Type 0
LineSays line (Ok l) = IsLine line l
LineSays line (Err loss) = (fault : LineFault) × IsRefused line fault × (loss ≡ loss_for line fault)

-- ---- of either

-- these bytes are a part, whole, and it says this
abbrev pub IsPart : LogForm → List ℕ → Said → Type 0
IsPart (Binary form) bytes said = (e : Entry) × IsEntry form e × (bytes ≡ entry_bytes form e) × (said ≡ said_of form e)
IsPart Text bytes said =
    (line : List ℕ) × HasNoFeed line × (bytes ≡ line ++ line_feed ∷ []) × LineSays (strip_carriage_return line) said

-- the bytes are parts that say these, and a rest
abbrev pub Splits : LogForm → List ℕ → List Said → List ℕ → Type 0
Splits form bytes [] rest = bytes ≡ rest
Splits form bytes (said ∷ more) rest =
    (part : List ℕ) × (next : List ℕ) × IsPart form part said × (bytes ≡ part ++ next) × Splits form next more rest

-- no part begins the bytes
abbrev pub BeginsNoPart : LogForm → List ℕ → Type 0
BeginsNoPart form bytes = (part more : List ℕ) (said : Said) → IsPart form part said → bytes ≢ part ++ more

-- the most bytes that are held: more than any line has that varnishlog prints, of a record of 65,535 bytes with four for
-- each
abbrev pub capacity : ℕ
capacity = 262208

-- whether the bytes that no part begins may go on as one. A second header is damage, too: passing over it would help
-- only where the first log ended whole, and else its last record would take the bytes of the second for its own
abbrev pub may_go_on : LogForm → List ℕ → Bool
may_go_on (Binary form) bytes = stops_early form bytes
may_go_on Text bytes = nat_lt (length bytes) capacity
