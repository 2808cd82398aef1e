-- The plain case of the main theorem of `vslog`: what stands in its output, of a log file whose bytes a world tells (this project's choice).
use Rattle.std.specs.Prelude.{◌≡◌, ◌≢◌, ℕ, Bool, true, false, List, [], ◌++◌, take, drop, length, Option, Some, None, Result, Ok, Err, codes}
use Rattle.std.specs.List.{AllByRecursion, flat_map}
use Rattle.vio.specs.declared.world.TheConstants.{OUTPUT}
use Rattle.vio.specs.World.{Gains, Seen}
use Rattle.vsl_record.specs.Unit.{Log}
use Rattle.vsl_record.specs.Words.{IsUnit}
use Rattle.vsl_file.specs.File.{file_header, log_bytes}
use Rattle.raw_records.specs.Gathered.{logged}
use Rattle.varnish_log.specs.declared.copying.CopyFault.{CopyFault}
use Rattle.varnish_log.specs.declared.copying.CopyFault.TheVariants.{ReadFault, WriteFault, Damaged, Lost}
use Rattle.varnish_log.specs.declared.copying.LogFault.{LogFault}
use Rattle.varnish_log.specs.declared.copying.LogFault.TheVariants.{NotALog, Unread}
use Rattle.varnish_log.specs.declared.copying.LogFault.TheVariants as logs
use Rattle.varnish_log.specs.declared.form.LogForm.{LogForm}
use Rattle.varnish_log.specs.declared.loss.Counts.{Counts}
use Rattle.varnish_log.specs.declared.loss.Loss.{Loss}
use Rattle.varnish_log.specs.Copied.{IsPlace}
use Rattle.varnish_log.specs.Counting.{none_counted}
use Rattle.varnish_log.specs.First.{form_of, kept_of}
use Rattle.varnish_log.specs.Parts.{BeginsNoPart, Said, Splits, may_go_on}
use Rattle.varnish_log.specs.Taken.{BeginsWithLoss, counted, loss_of, taken}
use Rattle.vslog.specs.declared.ended.Ended.{Ended}
use Rattle.vslog.specs.declared.ended.Ended.TheVariants.{Refused, Stopped, Done}
use Rattle.vslog.specs.declared.ended.RunFault.{RunFault}
use Rattle.vslog.specs.declared.ended.RunFault.TheVariants.{NoInput, NoOutput, NoHeader, Log as OfLog, CutShort}
use Rattle.vslog.specs.Words.{Job, job_of}

-- words name a log: they state this job over a file of which the world tells all bytes, and what is written goes to standard output
pub record NamesLog (words : List (List ℕ)) (job : Job) (bytes : List ℕ) (before : Seen) : Type 0 where
  pub states : job_of words ≡ Ok job
  pub is_file : job.input ≢ codes "-"
  pub held : before.held job.input ≡ Some bytes
  pub no_out : job.output ≡ codes "-"

-- the bytes of a file that belong to its parts: of a binary log those behind the first four, of a text all
abbrev pub parts_bytes : LogForm → List ℕ → List ℕ
parts_bytes form bytes = kept_of form (take 4 bytes) ++ drop 4 bytes

-- what was copied of a log of these bytes: they are one of the form that its first four tell, and are parts, whole, that say these, then bytes that are so, and bytes that weren't read.
-- Standard output gained a log file: its header, and units whose records, one after the other, are those that are taken of what the parts say. The counts are those of what was left out or
-- cut of them: where copying is strict, nothing
pub record CopiesParts (job : Job) (IsSo : LogForm → List ℕ → Type 0) (bytes rest unread : List ℕ) (counts : Counts) (before now : Seen) : Type 0 where
  pub form : LogForm
  pub is_log : form_of job.asked.text (take 4 bytes) ≡ Ok form
  pub said : List Said
  pub splits : Splits form (parts_bytes form bytes) said (rest ++ unread)
  pub is_so : IsSo form rest
  pub none_lost : job.asked.strict ≡ true → AllByRecursion (λ s. loss_of s ≡ None) said
  pub counts_are : counts ≡ counted none_counted said
  pub units : Log
  pub correct : AllByRecursion IsUnit units
  pub records : flat_map logged units ≡ taken said
  pub output : Gains (before.written OUTPUT) (now.written OUTPUT) (file_header ++ log_bytes units)

-- no part begins these bytes, and they may go on as one, or can't
abbrev pub BeginsNone : Bool → LogForm → List ℕ → Type 0
BeginsNone goes form rest = BeginsNoPart form rest × (may_go_on form rest ≡ goes)

-- all of it was read, and so many bytes at its end are inside a part
abbrev pub CopiesAll : Job → List ℕ → ℕ → Counts → Seen → Seen → Type 0
CopiesAll job bytes left counts before now =
    (rest : List ℕ) × (left ≡ length rest) × CopiesParts job (BeginsNone true) bytes rest [] counts before now

-- copying stopped at bytes that are so: all parts before that place were copied. It is the byte, counted from the first part's, or of a text the line, counted from 1
abbrev pub CopiesUpTo : Job → List ℕ → (LogForm → List ℕ → Type 0) → ℕ → Seen → Seen → Type 0
CopiesUpTo job bytes IsSo place before now = (rest : List ℕ) × (unread : List ℕ) × (counts : Counts) ×
    (copies : CopiesParts job IsSo bytes rest unread counts before now) ×
    IsPlace copies.form place (length (parts_bytes copies.form bytes)) (rest ++ unread) counts

-- what was copied where copying stopped; where a call failed, nothing is said here
abbrev pub CopiesBefore : Job → List ℕ → CopyFault → Seen → Seen → Type 0
CopiesBefore job bytes (Damaged place) before now = CopiesUpTo job bytes (BeginsNone false) place before now
CopiesBefore job bytes (Lost loss place) before now = CopiesUpTo job bytes (λ form rest. BeginsWithLoss form rest loss) place before now
CopiesBefore job bytes ReadFault before now = Unit {0}
CopiesBefore job bytes WriteFault before now = Unit {0}

-- of a file that is no log the header alone was written
abbrev pub CopiesLog : Job → List ℕ → LogFault → Seen → Seen → Type 0
CopiesLog job bytes (NotALog looks) before now = (form_of job.asked.text (take 4 bytes) ≡ Err looks) ×
    Gains (before.written OUTPUT) (now.written OUTPUT) file_header
CopiesLog job bytes Unread before now = Unit {0}
CopiesLog job bytes (logs.Stopped fault) before now = CopiesBefore job bytes fault before now

-- what a log came to, by the fault that stopped the work
abbrev pub CopiesStopped : Job → List ℕ → RunFault → Seen → Seen → Type 0
CopiesStopped job bytes (CutShort left) before now = (counts : Counts) × CopiesAll job bytes left counts before now
CopiesStopped job bytes (OfLog fault) before now = CopiesLog job bytes fault before now
CopiesStopped job bytes NoInput before now = Unit {0}
CopiesStopped job bytes NoOutput before now = Unit {0}
CopiesStopped job bytes NoHeader before now = Unit {0}

-- the same, by how the call ended
abbrev pub CopiesPlain : Job → List ℕ → Ended → Seen → Seen → Type 0
CopiesPlain job bytes (Done copied) before now = CopiesAll job bytes copied.left copied.counts before now
CopiesPlain job bytes (Stopped fault) before now = CopiesStopped job bytes fault before now
CopiesPlain job bytes (Refused fault) before now = ⊥

-- the plain case: where words name a log, this was written
abbrev pub PrintsPlain : List (List ℕ) → Ended → Seen → Seen → Type 0
PrintsPlain words ended before now =
    (job : Job) (bytes : List ℕ) → NamesLog words job bytes before → CopiesPlain job bytes ended before now
