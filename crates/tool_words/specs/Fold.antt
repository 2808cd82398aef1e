-- The numbers that options take, and what the given options change in a job (varnishlog(1), varnishncsa(1), varnishtop(1), varnishstat(1), "OPTIONS").
use Rattle.std.specs.Prelude.{ℕ, Bool, true, false, unwrap_or, List, [], ◌∷◌, ◌++◌, Option, Some, None}
use Rattle.tool_words.specs.declared.job.Job.{Job}
use Rattle.tool_words.specs.declared.job.Order.TheVariants as orders
use Rattle.tool_words.specs.declared.job.StatMode.{StatMode}
use Rattle.tool_words.specs.declared.job.StatMode.TheVariants as modes
use Rattle.tool_words.specs.declared.job.Tool.{Tool}
use Rattle.tool_words.specs.declared.options.Choice.{Choice}
use Rattle.tool_words.specs.declared.options.Choice.TheVariants as choices
use Rattle.tool_words.specs.declared.reading.Given.{Given}
use Rattle.tool_words.specs.Number.{count_and_seed, grouping_named, number_in}
use Rattle.txn_rows.specs.declared.group.Grouping.TheVariants.{Vxid}

-- the job of a tool without options
abbrev pub plain_job : Tool → Job
plain_job tool = record {
  tool = tool;
  file = None;
  feeds = [];
  made = None;
  seg = 65536;
  reclen = 255;
  order = orders.Threads;
  grouping = Vxid;
  limit = 1000;
  timeout = 120;
  keep = None;
  sides = record { backend = false; client = false; esi = false };
  caseless = false;
  verbose = false;
  queries = [];
  rules = [];
  write = None;
  append = false;
  text = false;
  format = None;
  first_field = false;
  stat = modes.Once;
  globs = [];
}

-- the least and the most number that an option takes; others than these take none but 0
abbrev pub range_of : Choice → ℕ × ℕ
range_of choices.Keep = (1, 999999999)
range_of choices.Limit = (1, 1000000)
range_of choices.RecordLength = (16, 4000)
range_of choices.Segment = (64, 1048576)
range_of choices.Timeout = (1, 1000000)
range_of choices.Turns = (0, 65536)
range_of choice = (0, 0)

-- the number that an option has of a value
abbrev pub number_for : Choice → List ℕ → Option ℕ
number_for choice value = number_in (range_of choice).0 (range_of choice).1 value

-- the number that an option has of a value, or what was there before
abbrev pub number_or : Choice → List ℕ → ℕ → ℕ
number_or choice value before = unwrap_or (number_for choice value) before

-- JSON, but for the list of counters, which counts before it
abbrev pub or_json : StatMode → StatMode
or_json modes.List = modes.List
or_json mode = modes.Json

-- one more query
abbrev pub with_query : Bool → List ℕ → Job → Job
with_query file value job = record job { queries = job.queries ++ record { file = file; text = value } ∷ [] }

-- one more rule
abbrev pub with_rule : Bool → Bool → ℕ → List ℕ → Job → Job
with_rule include pattern at value job =
    record job { rules = job.rules ++ record { include = include; regex = pattern; text = value; word = at } ∷ [] }

-- what an option changes in a job, by the place and the text of its value. `-d` changes nothing, because a log is read
-- from its beginning anyway, and `-1` only lets a tool end (this project's choice)
abbrev pub with_choice : Choice → ℕ → List ℕ → Job → Job
with_choice choices.Append at value job = record job { append = true }
with_choice choices.AsText at value job = record job { text = true }
with_choice choices.Backend at value job = record job { sides = record (job.sides) { backend = true } }
with_choice choices.Caseless at value job = record job { caseless = true }
with_choice choices.Client at value job = record job { sides = record (job.sides) { client = true } }
with_choice choices.Esi at value job = record job { sides = record (job.sides) { esi = true } }
with_choice choices.Exclude at value job = with_rule false false at value job
with_choice choices.ExcludePattern at value job = with_rule false true at value job
with_choice choices.Feed at value job = record job { feeds = job.feeds ++ value ∷ [] }
with_choice choices.FeedFirst at value job = record job { order = orders.FeedFirst }
with_choice choices.FileName at value job = record job { file = Some value }
with_choice choices.FirstField at value job = record job { first_field = true }
with_choice choices.Format at value job = record job { format = Some value }
with_choice choices.FromHead at value job = job
with_choice choices.Glob at value job = record job { globs = job.globs ++ value ∷ [] }
with_choice choices.Group at value job = record job { grouping = unwrap_or (grouping_named value) job.grouping }
with_choice choices.Include at value job = with_rule true false at value job
with_choice choices.IncludePattern at value job = with_rule true true at value job
with_choice choices.Json at value job = record job { stat = or_json job.stat }
with_choice choices.Keep at value job = record job { keep = number_for choices.Keep value }
with_choice choices.Limit at value job = record job { limit = number_or choices.Limit value job.limit }
with_choice choices.ListCounters at value job = record job { stat = modes.List }
with_choice choices.Made at value job = record job { made = count_and_seed value }
with_choice choices.Once at value job = job
with_choice choices.Query at value job = with_query false value job
with_choice choices.QueryFile at value job = with_query true value job
with_choice choices.RecordLength at value job = record job { reclen = number_or choices.RecordLength value job.reclen }
with_choice choices.Segment at value job = record job { seg = number_or choices.Segment value job.seg }
with_choice choices.Timeout at value job = record job { timeout = number_or choices.Timeout value job.timeout }
with_choice choices.Turns at value job = record job { order = orders.Turns (number_or choices.Turns value 0) }
with_choice choices.Verbose at value job = record job { verbose = true }
with_choice choices.Write at value job = record job { write = Some value }

-- what the given options change, each in turn
abbrev pub with_options : List Given → Job → Job
with_options [] job = job
with_options (one ∷ given) job = with_options given (with_choice one.choice one.word one.value job)
