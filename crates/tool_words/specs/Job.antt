-- The job of a command line (varnishlog(1), varnishncsa(1), varnishtop(1), varnishstat(1); the order of faults is this project's choice).
use Rattle.std.specs.Prelude.{ℕ, ◌&&◌, ◌||◌, not, if◌then◌else◌, Bool, true, false, is_some, is_none, List, [], ◌∷◌, Option, Some, None, Result, Ok, Err}
use Rattle.std.specs.List.{list_any}
use Rattle.tool_words.specs.declared.fault.UsageFault.{UsageFault}
use Rattle.tool_words.specs.declared.fault.UsageFault.TheVariants.{NoTool, NoOnce, NoLog, TwoLogs}
use Rattle.tool_words.specs.declared.job.Job.{Job}
use Rattle.tool_words.specs.declared.job.StatMode.{StatMode}
use Rattle.tool_words.specs.declared.job.StatMode.TheVariants as modes
use Rattle.tool_words.specs.declared.job.Tool.{Tool}
use Rattle.tool_words.specs.declared.job.Tool.TheVariants as tools
use Rattle.tool_words.specs.declared.options.Choice.{Choice}
use Rattle.tool_words.specs.declared.options.Choice.TheVariants.{Json, ListCounters, Once}
use Rattle.tool_words.specs.declared.reading.Given.{Given}
use Rattle.tool_words.specs.declared.reading.Reading.{Reading}
use Rattle.tool_words.specs.Fold.{plain_job, with_options}
use Rattle.tool_words.specs.Reading.{read_all}

-- whether a tool goes on for ever by itself
abbrev pub goes_on : Tool → Bool
goes_on tools.Log = false
goes_on tools.Ncsa = false
goes_on tools.Top = true
goes_on tools.Stat = true

-- whether an option lets such a tool end
abbrev pub is_ending : Choice → Bool
is_ending Once = true
is_ending Json = true
is_ending ListCounters = true
is_ending choice = false

-- whether one of the given options lets such a tool end
abbrev pub has_ending : List Given → Bool
has_ending given = list_any (λ (g : Given). is_ending g.choice) given

-- whether a list has nothing in it
abbrev pub is_nil : List (List ℕ) → Bool
is_nil [] = true
is_nil (text ∷ texts) = false

-- whether a job needs no log
abbrev pub lists_counters : StatMode → Bool
lists_counters modes.List = true
lists_counters mode = false

-- whether a job names feeds or requests that are made up
abbrev pub is_fed : Job → Bool
is_fed job = not (is_nil job.feeds) || is_some job.made

-- whether a job lacks a log that it needs
abbrev pub lacks_log : Job → Bool
lacks_log job = is_none job.file && not (is_fed job) && not (lists_counters job.stat)

-- whether a job has a log file beside other sources
abbrev pub has_two_logs : Job → Bool
has_two_logs job = is_some job.file && is_fed job

-- the tests after the last word, in their order
abbrev pub tested : Bool → Job → Result Job UsageFault
tested ends job =
    if goes_on job.tool && not ends then Err NoOnce else
    (if lacks_log job then Err NoLog else
    (if has_two_logs job then Err TwoLogs else Ok job))

-- the job of a tool and the given options
abbrev pub job_from : Option Tool → List Given → Result Job UsageFault
job_from None given = Err NoTool
job_from (Some tool) given = tested (has_ending given) (with_options given (plain_job tool))

-- the job of what was read
abbrev pub job_read : Result Reading UsageFault → Result Job UsageFault
job_read (Ok reading) = job_from reading.tool reading.given
job_read (Err fault) = Err fault

-- the job of the words, or what is wrong with them. Whatever the words are it says which, and each job that words state
-- is one that runs
abbrev pub job_of : List (List ℕ) → Result Job UsageFault
job_of words = job_read (read_all words)
