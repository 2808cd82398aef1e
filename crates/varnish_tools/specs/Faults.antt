-- The message and the status of each fault of the tools (this project's choice).
use Rattle.std.specs.Prelude.{ℕ, List, [], ◌++◌, Option, Some, None, unwrap_or, slice_get, codes}
use Rattle.tool_words.specs.declared.fault.UsageFault.{UsageFault}
use Rattle.tool_words.specs.declared.fault.UsageFault.TheVariants.{UnknownTool, UnknownOption, NoValue, BadValue, NotHere, NoTool, NoOnce, NoLog, TwoLogs}
use Rattle.query_parser.specs.declared.fault.QueryFault.{QueryFault}
use Rattle.query_parser.specs.declared.fault.QueryFault.TheVariants.{Syntax, UnknownTag, Number, Pattern, Deep, NoMemory}
use Rattle.one_command.specs.Messages.{numbered}
use Rattle.fan_output.specs.Messages.{told}
use Rattle.job_steps.specs.declared.fault.ToolFault.{ToolFault}
use Rattle.job_steps.specs.declared.fault.ToolFault.TheVariants.{Usage, BadPattern, BadQuery, BadFormat, BadListing, NoOpen, ReadFault, WriteFault, NotALog, Damaged, TooLarge, OldLog}

-- the word at a place, counted from 0
abbrev pub word_at : List (List ℕ) → ℕ → List ℕ
word_at words place = unwrap_or (slice_get words place) []

-- the message of what is wrong with the words, with the whole word
abbrev pub usage_message : List (List ℕ) → UsageFault → List ℕ
usage_message words (UnknownTool place) = told (codes "unknown tool: " ++ word_at words place)
usage_message words (UnknownOption place) = told (codes "unknown option: " ++ word_at words place)
usage_message words (NoValue place) = told (codes "option needs a value: " ++ word_at words place)
usage_message words (BadValue place) = told (codes "bad value: " ++ word_at words place)
usage_message words (NotHere place) = told (codes "not supported here: " ++ word_at words place)
usage_message words NoTool = told (codes "no tool")
usage_message words NoOnce = told (codes "give -1 to run once")
usage_message words NoLog = told (codes "no log")
usage_message words TwoLogs = told (codes "two logs")

-- what is wrong with a query's text, and the byte
abbrev pub query_message : QueryFault → List ℕ
query_message (Syntax at) = numbered (codes "syntax at ") at []
query_message (UnknownTag at) = numbered (codes "unknown tag at ") at []
query_message (Number at) = numbered (codes "number at ") at []
query_message (Pattern at) = numbered (codes "pattern at ") at []
query_message (Deep at) = numbered (codes "too deep at ") at []
query_message NoMemory = codes "out of memory"

-- the message of a fault of these words, for standard error: one line, where names and words have no line feed
abbrev pub message : List (List ℕ) → ToolFault → List ℕ
message words (Usage fault) = usage_message words fault
message words (BadPattern word) = told (codes "pattern refused: " ++ word_at words word)
message words (BadQuery query fault) = told (numbered (codes "query ") query (codes ": ") ++ query_message fault)
message words (BadFormat at) = told (numbered (codes "format: syntax at ") at [])
message words (NoOpen name) = told (name ++ codes ": cannot open")
message words (ReadFault name) = told (name ++ codes ": read failed")
message words (WriteFault name) = told (name ++ codes ": write failed")
message words (BadListing feed line) = told (numbered (codes "feed ") feed (codes ": bad line ") ++ numbered [] line [])
message words (NotALog name at) = told (name ++ numbered (codes ": not a log at ") at [])
message words (Damaged name at) = told (name ++ numbered (codes ": damaged at ") at [])
message words (TooLarge name limit) = told (name ++ numbered (codes ": larger than ") limit (codes " bytes"))
message words (OldLog name) = told (name ++ codes ": cannot append")

-- the message where there is a fault
abbrev pub fault_message : List (List ℕ) → Option ToolFault → List ℕ
fault_message words None = []
fault_message words (Some fault) = message words fault

-- the status of a run: 0 without a fault; 2 where the words, the pattern of a rule, the text of a query, of `-q` or of a file, or a format was refused; else 1: a call failed, a
-- log or a feed isn't one, a file is larger than is read, or isn't one that can be appended to. Want of memory is no fault of a run, and `vtools` answers it with 3
abbrev pub status_of : Option ToolFault → ℕ
status_of None = 0
status_of (Some (Usage fault)) = 2
status_of (Some (BadPattern word)) = 2
status_of (Some (BadQuery query fault)) = 2
status_of (Some (BadFormat at)) = 2
status_of (Some (BadListing feed line)) = 1
status_of (Some (NoOpen name)) = 1
status_of (Some (ReadFault name)) = 1
status_of (Some (WriteFault name)) = 1
status_of (Some (NotALog name at)) = 1
status_of (Some (Damaged name at)) = 1
status_of (Some (TooLarge name limit)) = 1
status_of (Some (OldLog name)) = 1
