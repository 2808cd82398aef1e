-- The steps of a job before its run, in order: each asks something of the words or of the world, finds something, or refuses the job (their order is this project's choice).
use Rattle.std.specs.Prelude.{◌≡◌, ◌⊎◌, ℕ, ◌+◌, Bool, true, false, if◌then◌else◌, is_some, List, [], ◌∷◌, ◌++◌, map, Some, None, Result, Ok, Err, codes}
use Rattle.std.specs.Bool.{MatchBool}
use Rattle.std.specs.List.{flat_map}
use Rattle.std.specs.Str.{bytes_eq}
use Rattle.vio.specs.declared.world.TheConstants.{INPUT, OUTPUT}
use Rattle.vio.specs.declared.fault.NamedFault.{NamedFault}
use Rattle.vio.specs.declared.fault.NamedFault.TheVariants as named
use Rattle.vio.specs.World.{Opening, Creating}
use Rattle.vio.specs.Calls.{Call, Refuse}
use Rattle.vio.specs.Named.{IsReadBy, IsRefusedBy}
use Rattle.vio.specs.Streams.{IsMadeBy, IsOpenedBy}
use Rattle.query_grammar.specs.Scanner.{Fault}
use Rattle.query_grammar.specs.Scanner as scanner
use Rattle.query_parser.specs.declared.fault.QueryFault.{QueryFault}
use Rattle.query_parser.specs.declared.fault.QueryFault.TheVariants as queries
use Rattle.query_parser.specs.Parsed.{first_fault}
use Rattle.vsl_select.specs.declared.rule_text.RuleText.{RuleText}
use Rattle.vsl_select.specs.declared.rule_text.SelectFault.{SelectFault}
use Rattle.vsl_select.specs.declared.rule_text.SelectFault.TheVariants as rules
use Rattle.vsl_select.specs.Shown.{rules_fault}
use Rattle.traffic_feed.specs.declared.listing.Listing.{Listing}
use Rattle.feed_files.specs.declared.fault.FeedFault.{FeedFault}
use Rattle.feed_files.specs.declared.fault.FeedFault.TheVariants as feeds
use Rattle.feed_files.specs.Feeds.{Feed, feeds_from, FeedPasses, FeedStops}
use Rattle.tool_words.specs.declared.command.Command.{Command}
use Rattle.tool_words.specs.declared.command.Command.TheVariants.{ForTool, ForConvert}
use Rattle.tool_words.specs.declared.command.Names.{Names}
use Rattle.tool_words.specs.declared.fault.UsageFault.{UsageFault}
use Rattle.tool_words.specs.declared.fault.UsageFault.TheVariants.{BadValue}
use Rattle.tool_words.specs.declared.job.Job.{Job}
use Rattle.tool_words.specs.declared.job.QueryText.{QueryText}
use Rattle.tool_words.specs.declared.job.Tool.{Tool}
use Rattle.job_steps.specs.declared.fault.ToolFault.{ToolFault}
use Rattle.job_steps.specs.declared.fault.ToolFault.TheVariants.{Usage, BadPattern, BadQuery, BadListing, NoOpen, ReadFault, TooLarge}
use Rattle.job_steps.specs.Appends.{AppendStops, IsAppendedBy}
use Rattle.job_steps.specs.Jobs.{appends_log, is_counting, file_of, write_of, format_text, text_fault}

-- a step of a job
pub data Step : Type 0 where
  -- the words state no job
  RefuseWords : UsageFault → Step
  -- the rules of -i, -x, -I and -X are read, caseless or not
  TakeRules : Bool → List RuleText → Step
  -- a query is taken, caseless or not, which is the n-th from 0
  TakeQuery : Bool → ℕ → QueryText → Step
  -- the format of a tool is read
  TakeFormat : Tool → List ℕ → Step
  -- the log of this name is opened, or standard input for `-`
  OpenLog : List ℕ → Step
  -- a feed is read, of whose payloads so many bytes are kept, for segments of so many words
  ReadFeed : ℕ → ℕ → Feed → Step
  -- what is written is created, which keeps its bytes or not; or standard output for `-`
  MakeSink : Bool → List ℕ → Step
  -- the same of a log file that keeps its bytes: where it has some, it is looked at
  AppendLog : List ℕ → Step

-- what a step finds
pub data Found : Type 0 where
  FoundNone : Found
  -- the text of a query
  FoundText : List ℕ → Found
  -- the handle of a log
  FoundLog : ℕ → Found
  -- the listing of a feed
  FoundListing : Listing → Found
  -- the handle of what is written, and whether it has no bytes; standard output counts as having none
  FoundSink : ℕ → Bool → Found

-- ---- the list

-- the queries, of which the first is the n-th
abbrev pub queries_from : Bool → ℕ → List QueryText → List Step
queries_from caseless n [] = []
queries_from caseless n (query ∷ queries) = TakeQuery caseless n query ∷ queries_from caseless (n + 1) queries

-- the feeds of a job
abbrev pub feed_steps : Job → List Step
feed_steps job = map (ReadFeed job.reclen job.seg) (feeds_from 0 job.feeds)

-- what a job takes its units from
abbrev pub input_steps : Job → List Step
input_steps job = if is_some job.file then OpenLog (file_of job) ∷ [] else feed_steps job

-- what a job writes
abbrev pub sink_step : Job → Step
sink_step job = if appends_log job then AppendLog (write_of job) else MakeSink job.append (write_of job)

-- what a job does that prints groups. What can be told without a log comes first, and the file to be written last: a
-- query, a format, a log or a feed at fault leaves that file as it was
abbrev pub group_steps : Job → List Step
group_steps job = queries_from job.caseless 0 job.queries ++ (TakeFormat job.tool (format_text job) ∷ []) ++
    input_steps job ++ sink_step job ∷ []

-- what a job does that prints counters. For names alone no feed is needed; those that are given are read all the same,
-- so that a command line has its faults, whatever is printed
abbrev pub counter_steps : Job → List Step
counter_steps job = feed_steps job ++ MakeSink false (codes "-") ∷ []

-- what is asked of a job's words alone: its rules are read
abbrev pub word_steps : Job → List Step
word_steps job = TakeRules job.caseless job.rules ∷ []

-- what a job does
abbrev pub job_steps : Job → List Step
job_steps job = if is_counting job.tool then counter_steps job else group_steps job

-- what a command does that reads a log and writes a file, under two names
abbrev pub names_steps : Names → List Step
names_steps names = OpenLog names.input ∷ MakeSink false names.output ∷ []

-- the steps of a command: a new one is a line here
abbrev pub command_steps : Command → List Step
command_steps (ForTool job) = word_steps job ++ job_steps job
command_steps (ForConvert names) = names_steps names

-- the steps of what words ask for: they are refused, or those of their command
abbrev pub steps_of : Result Command UsageFault → List Step
steps_of (Err why) = RefuseWords why ∷ []
steps_of (Ok command) = command_steps command

-- ---- how a step passes

-- the most bytes of a query's file that are read
abbrev pub most_query_bytes : ℕ
most_query_bytes = 65536

-- this is the text of a query: that of the word, or what was read of the file of this name. The name `-` is that of a
-- file like others: a run has one standard input, and the log is read from it
abbrev pub IsTextBy : QueryText → List ℕ → List Call → Type 0
IsTextBy query text calls = MatchBool query.file (IsReadBy most_query_bytes query.text text calls)
    ((text ≡ query.text) × (calls ≡ []))

-- a step passes by these calls, and finds this
abbrev pub Passes : Step → Found → List Call → Type 0
Passes (RefuseWords why) found calls = ⊥
Passes (TakeRules caseless texts) found calls = (found ≡ FoundNone) × (calls ≡ []) × (rules_fault caseless texts ≡ None)
Passes (TakeQuery caseless n query) found calls = (text : List ℕ) × (found ≡ FoundText text) ×
    IsTextBy query text calls × (first_fault caseless text ≡ None)
Passes (TakeFormat tool text) found calls = (found ≡ FoundNone) × (calls ≡ []) × (text_fault tool text ≡ None)
Passes (OpenLog name) found calls = (h : ℕ) × (found ≡ FoundLog h) × IsOpenedBy name h calls
Passes (ReadFeed reclen seg feed) found calls = (listing : Listing) × (found ≡ FoundListing listing) ×
    FeedPasses reclen seg feed listing calls
Passes (MakeSink append name) found calls = (h : ℕ) × (empty : Bool) × (found ≡ FoundSink h empty) ×
    IsMadeBy append name h empty calls
Passes (AppendLog name) found calls = (h : ℕ) × (empty : Bool) × (found ≡ FoundSink h empty) ×
    IsAppendedBy name h empty calls

-- ---- how a step stops a job

-- the first that is wrong with rules refuses them: a taglist is a bad value, and a pattern is refused; no rule has want of memory as its fault
abbrev pub IsRuleAnswer : SelectFault → ToolFault → Type 0
IsRuleAnswer (rules.BadTags word) fault = fault ≡ Usage (BadValue word)
IsRuleAnswer (rules.BadPattern word) fault = fault ≡ BadPattern word
IsRuleAnswer rules.NoMemory fault = ⊥

-- how a file is answered that isn't read whole
abbrev pub named_answer : ℕ → List ℕ → NamedFault → ToolFault
named_answer limit name named.NoOpen = NoOpen name
named_answer limit name named.Failed = ReadFault name
named_answer limit name named.TooLarge = TooLarge name limit

-- how the fault of a query's text is answered
abbrev pub query_answer : Fault → QueryFault
query_answer (scanner.Syntax at) = queries.Syntax at
query_answer (scanner.UnknownTag at) = queries.UnknownTag at
query_answer (scanner.Number at) = queries.Number at
query_answer (scanner.Pattern at) = queries.Pattern at
query_answer (scanner.Deep at) = queries.Deep at

-- how the fault of a feed is answered
abbrev pub feed_answer : FeedFault → ToolFault
feed_answer (feeds.NoOpen name) = NoOpen name
feed_answer (feeds.ReadFault name) = ReadFault name
feed_answer (feeds.TooLarge name limit) = TooLarge name limit
feed_answer (feeds.BadListing feed line) = BadListing feed line

-- the file of a query isn't read; or its text has a fault, the first. A file past the bound is refused before its text
-- is looked into: what a person writes is shorter
abbrev pub QueryStops : Bool → ℕ → QueryText → ToolFault → List Call → Type 0
QueryStops caseless n query fault calls =
    ((query.file ≡ true) × ((why : NamedFault) × IsRefusedBy most_query_bytes query.text why calls ×
    (fault ≡ named_answer most_query_bytes query.text why)))
    ⊎ ((text : List ℕ) × (why : Fault) × IsTextBy query text calls × (first_fault caseless text ≡ Some why) ×
    (fault ≡ BadQuery n (query_answer why)))

-- a step stops a job with this fault, by these calls. What was done until then is said for all steps alike, so a new
-- fault needs no new clause of the top call
abbrev pub Stops : Step → ToolFault → List Call → Type 0
Stops (RefuseWords why) fault calls = (calls ≡ []) × (fault ≡ Usage why)
Stops (TakeRules caseless texts) fault calls = (calls ≡ []) ×
    ((why : SelectFault) × (rules_fault caseless texts ≡ Some why) × IsRuleAnswer why fault)
Stops (TakeQuery caseless n query) fault calls = QueryStops caseless n query fault calls
Stops (TakeFormat tool text) fault calls = (calls ≡ []) × (text_fault tool text ≡ Some fault)
Stops (OpenLog name) fault calls = (bytes_eq name (codes "-") ≡ false) × (calls ≡ Refuse Opening name ∷ []) × (fault ≡ NoOpen name)
Stops (ReadFeed reclen seg feed) fault calls = (why : FeedFault) × FeedStops feed why calls × (fault ≡ feed_answer why)
Stops (MakeSink append name) fault calls = (bytes_eq name (codes "-") ≡ false) × (calls ≡ Refuse Creating name ∷ []) × (fault ≡ NoOpen name)
Stops (AppendLog name) fault calls = AppendStops name fault calls

-- ---- what steps found

-- the text of a query, where it was found
abbrev pub text_in : Found → List (List ℕ)
text_in (FoundText text) = text ∷ []
text_in other = []

-- the listing of a feed
abbrev pub listing_in : Found → List Listing
listing_in (FoundListing listing) = listing ∷ []
listing_in other = []

-- the handle of a log
abbrev pub log_in : Found → List ℕ
log_in (FoundLog h) = h ∷ []
log_in other = []

-- the handle of what is written, and whether it has no bytes
abbrev pub sink_in : Found → List (ℕ × Bool)
sink_in (FoundSink h empty) = (h, empty) ∷ []
sink_in other = []

-- the texts of queries, in order
abbrev pub texts_of : List Found → List (List ℕ)
texts_of found = flat_map text_in found

-- the listings of feeds, in order
abbrev pub listings_of : List Found → List Listing
listings_of found = flat_map listing_in found

-- the handles of logs
abbrev pub logs_of : List Found → List ℕ
logs_of found = flat_map log_in found

-- the handles of what is written, and whether each has no bytes
abbrev pub sinks_of : List Found → List (ℕ × Bool)
sinks_of found = flat_map sink_in found

-- ---- what steps touch

-- the name of a file, and none for `-`
abbrev pub file_named : List ℕ → List (List ℕ)
file_named name = if bytes_eq name (codes "-") then [] else name ∷ []

-- the stream for `-`, and none for a file
abbrev pub stream_named : ℕ → List ℕ → List ℕ
stream_named h name = if bytes_eq name (codes "-") then h ∷ [] else []

-- the names under which a step opens files
abbrev pub opens : Step → List (List ℕ)
opens (TakeQuery caseless n query) = if query.file then query.text ∷ [] else []
opens (OpenLog name) = file_named name
opens (ReadFeed reclen seg feed) = feed.name ∷ []
opens (AppendLog name) = file_named name
opens step = []

-- the names under which a step creates files
abbrev pub creates : Step → List (List ℕ)
creates (MakeSink append name) = file_named name
creates (AppendLog name) = file_named name
creates step = []

-- the standard streams that are read for what a step opens
abbrev pub reads : Step → List ℕ
reads (OpenLog name) = stream_named INPUT name
reads step = []

-- the standard streams that are written for what a step creates
abbrev pub writes : Step → List ℕ
writes (MakeSink append name) = stream_named OUTPUT name
writes (AppendLog name) = stream_named OUTPUT name
writes step = []

-- the names under which steps open files
abbrev pub opens_of : List Step → List (List ℕ)
opens_of steps = flat_map opens steps

-- the names under which they create files
abbrev pub creates_of : List Step → List (List ℕ)
creates_of steps = flat_map creates steps

-- the standard streams that they read
abbrev pub reads_of : List Step → List ℕ
reads_of steps = flat_map reads steps

-- the standard streams that they write
abbrev pub writes_of : List Step → List ℕ
writes_of steps = flat_map writes steps
