-- What is taken of the parts of a log, and what is counted of them (vsl(7); what is left out and cut is this project's choice).
use Rattle.std.specs.Prelude.{◌≡◌, nat_lt, if◌then◌else◌, true, false, List, ◌++◌, ℕ, length, Option, Some, None, Ok, Err}
use Rattle.std.specs.List.{AllByRecursion, filter_map, fold}
use Rattle.vsl_record.specs.Payload.{most_payload}
use Rattle.vsl_record.specs.Words.{IsUnit}
use Rattle.vsl_file.specs.File.{log_bytes}
use Rattle.raw_records.specs.Lines.{LoggedRecord, BlankLine, CommentLine, RecordLine}
use Rattle.raw_records.specs.Gathered.{gathered, goes_on, shortened}
use Rattle.varnish_log.specs.declared.form.How.{How}
use Rattle.varnish_log.specs.declared.form.LogForm.{LogForm}
use Rattle.varnish_log.specs.declared.loss.Counts.{Counts}
use Rattle.varnish_log.specs.declared.loss.Loss.{Loss}
use Rattle.varnish_log.specs.declared.loss.Loss.TheVariants.{LongPayload}
use Rattle.varnish_log.specs.declared.taking.Stop.{Stop}
use Rattle.varnish_log.specs.declared.taking.Stop.TheVariants.{GoesOn, Damaged, Lost}
use Rattle.varnish_log.specs.Counting.{with_loss, with_part}
use Rattle.varnish_log.specs.Parts.{BeginsNoPart, IsPart, Said, Splits, may_go_on}

-- what is taken of a record: its payload no longer than one may be
abbrev pub taken_of : Said → Option LoggedRecord
taken_of (Ok (RecordLine l)) = Some (shortened most_payload l)
taken_of (Ok BlankLine) = None
taken_of (Ok CommentLine) = None
taken_of (Err loss) = None

-- what is taken of parts, in order
abbrev pub taken : List Said → List LoggedRecord
taken said = filter_map taken_of said

-- what is left out of a part, or cut. The log of a running server comes once, so what has no place here is left out or
-- cut, and counted, and not refused
abbrev pub loss_of : Said → Option Loss
loss_of (Ok (RecordLine l)) = if nat_lt most_payload (length l.rec.payload) then Some LongPayload else None
loss_of (Ok BlankLine) = None
loss_of (Ok CommentLine) = None
loss_of (Err loss) = Some loss

-- the counts with this left out or cut, if something is
abbrev pub with_loss_of : Option Loss → Counts → Counts
with_loss_of None counts = counts
with_loss_of (Some loss) counts = with_loss loss counts

-- the counts with a part more
abbrev pub counted_one : Counts → Said → Counts
counted_one counts said = with_loss_of (loss_of said) (with_part counts)

-- the counts with parts more
abbrev pub counted : Counts → List Said → Counts
counted counts said = fold counted_one counts said

-- a part begins the bytes of which something would be left out or cut
abbrev pub BeginsWithLoss : LogForm → List ℕ → Loss → Type 0
BeginsWithLoss form bytes loss = (part : List ℕ) × (more : List ℕ) × (said : Said) × IsPart form part said ×
    (bytes ≡ part ++ more) × (loss_of said ≡ Some loss)

-- taking parts stops before such bytes: no part begins them, and they may go on as one, or can't; or, where copying is
-- strict, a part does of which something would be left out or cut. Who asks for that wants all or nothing, and knows
-- the place; what was before it is written
abbrev pub StopsAs : How → Stop → List ℕ → Type 0
StopsAs how GoesOn bytes = BeginsNoPart how.form bytes × (may_go_on how.form bytes ≡ true)
StopsAs how Damaged bytes = BeginsNoPart how.form bytes × (may_go_on how.form bytes ≡ false)
StopsAs how (Lost loss) bytes = (how.strict ≡ true) × BeginsWithLoss how.form bytes loss

-- of bytes these were taken: all parts that lie whole in them, but where copying is strict only those before the first of which something would be left out or cut; and this is the rest. The
-- list gained the units of what is taken of them, each as long as it can be among these bytes, and no unit is too long; the counts are theirs
pub record AreTaken (how : How) (stop : Stop) (bytes rest old new : List ℕ) (before after : Counts) : Type 0 where
  pub said : List Said
  pub splits : Splits how.form bytes said rest
  pub none_lost : how.strict ≡ true → AllByRecursion (λ s. loss_of s ≡ None) said
  pub stops : StopsAs how stop rest
  pub added : new ≡ old ++ log_bytes (gathered goes_on (taken said))
  pub are_units : AllByRecursion IsUnit (gathered goes_on (taken said))
  pub counts : after ≡ counted before said
