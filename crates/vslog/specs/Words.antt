-- The words of the command line and the job that they state (`-a` and `-w` as in varnishlog(1), "OPTIONS"; the rest is this project's choice).
use Rattle.std.specs.Prelude.{ℕ, ◌==◌, if◌then◌else◌, Bool, true, false, List, Option, Some, None, Result, Ok, Err, codes}
use Rattle.std.specs.Str.{bytes_eq}
use Rattle.varnish_log.specs.declared.form.Asked.{Asked}
use Rattle.word_forms.specs.declared.fault.WordFault.{WordFault}
use Rattle.word_forms.specs.declared.fault.WordFault.TheVariants as words
use Rattle.word_forms.specs.Items.{Given, Table, folded, items}
use Rattle.vslog.specs.declared.options.Choice.{Choice}
use Rattle.vslog.specs.declared.options.Choice.TheVariants as choices
use Rattle.vslog.specs.declared.words.Job.{Job as JobView}
use Rattle.vslog.specs.declared.words.LogRows.{LogRows}
use Rattle.vslog.specs.declared.words.UsageFault.{UsageFault}
use Rattle.vslog.specs.declared.words.UsageFault.TheVariants.{UnknownOption, NoValue, TwoLogs}

-- what is to be copied, how, and to where: `-` is standard input, or standard output
pub record Job : Type 0 where
  pub asked : Asked
  pub append : Bool
  pub quiet : Bool
  pub output : List ℕ
  pub input : List ℕ

-- what a letter says
abbrev pub letter_of : ℕ → Option Choice
letter_of letter =
    if letter == 116 then Some choices.Text else
    (if letter == 119 then Some choices.Write else
    (if letter == 97 then Some choices.Append else
    (if letter == 113 then Some choices.Quiet else None)))

-- what a word says by itself
abbrev pub word_of : List ℕ → Option Choice
word_of word = if bytes_eq (codes "--strict") word then Some choices.Strict else None

-- whether an option has a value
abbrev pub has_value : Choice → Bool
has_value choices.Write = true
has_value choice = false

-- the options, and one operand among them, the log. A filter takes its input as an operand, so there is no letter for it
abbrev pub log_rows : Table LogRows Choice
log_rows = record {
  letter = λ rows letter. letter_of letter;
  name = λ rows word. word_of word;
  wants = has_value;
  behind = λ rows operand. if rows.named then None else Some (record { named = true });
}

-- behind an option, or behind the word that names the log. There is no `--`: a name that begins with a minus sign is
-- written `./NAME`
abbrev pub with_given : Option Choice → List ℕ → Job → Job
with_given None input job = record job { input = input }
with_given (Some choices.Text) value job = record job { asked = record (job.asked) { text = true } }
with_given (Some choices.Append) value job = record job { append = true }
with_given (Some choices.Quiet) value job = record job { quiet = true }
with_given (Some choices.Strict) value job = record job { asked = record (job.asked) { strict = true } }
with_given (Some choices.Write) output job = record job { output = output }

-- behind what is given next
abbrev pub with_next : Job → Given Choice → Result Job UsageFault
with_next job one = Ok (with_given one.choice one.value job)

-- what is wrong with a word: `-w` alone has a value
abbrev pub usage_of : WordFault → UsageFault
usage_of (words.UnknownOption at) = UnknownOption at
usage_of (words.NoValue at) = NoValue
usage_of (words.BadOperand at) = TwoLogs at

-- before the first word
abbrev pub first_job : Job
first_job = record { asked = record { text = false; strict = false }; append = false; quiet = false; output = codes "-"; input = codes "-" }

-- the job that the words state, or the first that is wrong with them
abbrev pub job_of : List (List ℕ) → Result Job UsageFault
job_of words = folded with_next usage_of first_job (items log_rows (record { named = false }) 0 None words)

-- ---- what was read

-- a job, with the bytes of its names
abbrev pub job_as : JobView → Job
job_as j = record { asked = j.asked; append = j.append; quiet = j.quiet; output = j.output.now; input = j.input.now }

-- the job, where nothing is wrong with the words
abbrev pub stated_as : Result JobView UsageFault → Result Job UsageFault
stated_as (Ok job) = Ok (job_as job)
stated_as (Err fault) = Err fault
