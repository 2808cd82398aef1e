-- What is said on standard error (this project's choice).
use Rattle.std.specs.Prelude.{ℕ, ◌+◌, ◌-◌, ◌^◌, min, nat_lt, if◌then◌else◌, Bool, List, [], ◌++◌, codes, slice_index_or}
use Rattle.one_command.specs.Messages.{numbered}
use Rattle.varnish_log.specs.declared.copying.Copied.{Copied}
use Rattle.varnish_log.specs.declared.copying.CopyFault.{CopyFault}
use Rattle.varnish_log.specs.declared.copying.CopyFault.TheVariants as copying
use Rattle.varnish_log.specs.declared.copying.LogFault.{LogFault}
use Rattle.varnish_log.specs.declared.copying.LogFault.TheVariants.{NotALog, Unread}
use Rattle.varnish_log.specs.declared.copying.LogFault.TheVariants as logs
use Rattle.varnish_log.specs.declared.first.Looks.{Looks}
use Rattle.varnish_log.specs.declared.first.Looks.TheVariants as looks
use Rattle.varnish_log.specs.declared.loss.Loss.{Loss}
use Rattle.varnish_log.specs.declared.loss.Loss.TheVariants as losses
use Rattle.vslog.specs.declared.words.UsageFault.{UsageFault}
use Rattle.vslog.specs.declared.words.UsageFault.TheVariants.{UnknownOption, NoValue, TwoLogs}
use Rattle.vslog.specs.declared.ended.Ended.{Ended}
use Rattle.vslog.specs.declared.ended.Ended.TheVariants.{Refused, Stopped, Done}
use Rattle.vslog.specs.declared.ended.RunFault.{RunFault}
use Rattle.vslog.specs.declared.ended.RunFault.TheVariants.{NoInput, NoOutput, NoHeader, Log, CutShort}
use Rattle.vslog.specs.Words.{Job}

-- a line, after the program's name
abbrev pub told : List ℕ → List ℕ
told text = codes "vslog: " ++ text ++ codes "\n"

-- what is wrong with the words
abbrev pub usage_message : List (List ℕ) → UsageFault → List ℕ
usage_message words (UnknownOption at) = told (codes "unknown option: " ++ slice_index_or words at [])
usage_message words NoValue = told (codes "option needs a value: -w")
usage_message words (TwoLogs at) = told (codes "two logs: " ++ slice_index_or words at [])

-- what a file looks like that isn't the log it should be, and what to do
abbrev pub looks_text : Looks → List ℕ
looks_text looks.Empty = codes ": empty"
looks_text looks.VarnishLog = codes ": Varnish's binary log: leave -t out"
looks_text looks.LogFile = codes ": a log file of vtools: read it with -r"
looks_text looks.OtherVersion = codes ": a binary log of another version of Varnish"
looks_text looks.Gzip = codes ": packed by gzip: unpack it first"
looks_text looks.Text = codes ": a text: use -t"
looks_text looks.Unknown = codes ": no log of Varnish"

-- a byte of a binary log, counted with its first four
abbrev pub byte_of : ℕ → ℕ
byte_of place = min (place + 4) (2 ^ 64 - 1)

-- the place where no part begins, of a text or of a binary log
abbrev pub damage_text : Bool → ℕ → List ℕ
damage_text text place =
    if text then numbered (codes ": damaged at line ") place [] else
    numbered (codes ": damaged at byte ") (byte_of place) []

-- the place of a part of which something would be left out or cut, and what
abbrev pub lost_text : Bool → ℕ → List ℕ → List ℕ
lost_text text place what =
    if text then numbered (codes ": line ") place what else numbered (codes ": byte ") (byte_of place) what

-- of what nothing is left out or cut, where copying is strict
abbrev pub loss_text : Loss → List ℕ
loss_text losses.UnknownTag = codes ": a tag that vtools doesn't have"
loss_text losses.LongPayload = codes ": a payload above 4000 bytes"
loss_text losses.OtherVxid = codes ": a VXID out of range"
loss_text losses.OtherGrouping = codes ": a line of another grouping than raw"
loss_text losses.OtherForm = codes ": no raw line"

-- why copying stopped, behind the name of the log or of what is written
abbrev pub copy_message : Job → CopyFault → List ℕ
copy_message job copying.ReadFault = told (job.input ++ codes ": read failed")
copy_message job copying.WriteFault = told (job.output ++ codes ": write failed")
copy_message job (copying.Damaged place) = told (job.input ++ damage_text job.asked.text place)
copy_message job (copying.Lost loss place) = told (job.input ++ lost_text job.asked.text place (loss_text loss))

-- why a log was not copied to its end
abbrev pub log_message : Job → LogFault → List ℕ
log_message job (NotALog looks) = told (job.input ++ looks_text looks)
log_message job Unread = told (job.input ++ codes ": read failed")
log_message job (logs.Stopped fault) = copy_message job fault

-- why the work stopped
abbrev pub fault_message : Job → RunFault → List ℕ
fault_message job NoInput = told (job.input ++ codes ": cannot open")
fault_message job NoOutput = told (job.output ++ codes ": cannot open")
fault_message job NoHeader = told (job.output ++ codes ": write failed")
fault_message job (Log fault) = log_message job fault
fault_message job (CutShort left) = told (job.input ++ numbered (codes ": ends inside a part: ") left (codes " bytes"))

-- a line of so many, where there is one
abbrev pub counted_line : ℕ → List ℕ → List ℕ
counted_line n text = if nat_lt 0 n then told (numbered [] n text) else []

-- how much was left out or cut: one line a kind, at the end, since a message for each record would be as many as
-- records
abbrev pub counts_text : Copied → List ℕ
counts_text copied =
    counted_line copied.counts.unknown_tags (codes " records of tags that vtools doesn't have were left out")
    ++ counted_line copied.counts.long_payloads (codes " payloads above 4000 bytes were cut")
    ++ counted_line copied.counts.other_vxids (codes " lines of VXIDs out of range were left out")
    ++ counted_line copied.counts.other_groupings (codes " lines of another grouping than raw were left out")
    ++ counted_line copied.counts.other_forms (codes " lines that are no raw lines were left out")
    ++ counted_line copied.left (codes " bytes at the end, inside a part, were left out")

-- what is said where a job ended so: why the work stopped; or, unless that is to be quiet, what was left out or cut, a line a kind of which there is some. So counts are told when
-- varnishlog is stopped, and not where a signal ends this program, too. Of words that were refused `usage_message` is said
abbrev pub text_due : Job → Ended → List ℕ
text_due job (Refused fault) = []
text_due job (Stopped fault) = fault_message job fault
text_due job (Done copied) = if job.quiet then [] else counts_text copied
