-- What the steps of a job need to pass where no call fails, in a world that tells what its files hold (this project's choice).
use Rattle.std.specs.Prelude.{◌≡◌, ℕ, ◌≤◌, List, length, Some, None}
use Rattle.std.specs.Bool.{MatchBool}
use Rattle.std.specs.List.{AllByRecursion}
use Rattle.vio.specs.World.{Seen}
use Rattle.query_parser.specs.Parsed.{first_fault}
use Rattle.vsl_select.specs.Shown.{rules_fault}
use Rattle.traffic_feed.specs.declared.listing.Listing.{Listing}
use Rattle.feed_files.specs.Feeds.{IsFeed}
use Rattle.tool_words.specs.declared.job.QueryText.{QueryText}
use Rattle.job_steps.specs.Appends.{MayAppend}
use Rattle.job_steps.specs.Jobs.{text_fault}
use Rattle.job_steps.specs.Steps.{Step, RefuseWords, TakeRules, TakeQuery, TakeFormat, OpenLog, ReadFeed, MakeSink, AppendLog, most_query_bytes}

-- the text of a query is told: it is that of the word, or what the file of this name holds, which is within the bound
abbrev pub TellsText : Seen → QueryText → List ℕ → Type 0
TellsText before query text =
    MatchBool query.file ((before.held query.text ≡ Some text) × (length text ≤ most_query_bytes)) (text ≡ query.text)

-- what a step needs to pass: rules without a fault, the text of a query without a fault, a good format, a feed whose file is told to hold a listing, within the bound, a log file
-- that may be appended to; a log and what else is written need nothing, and words that are refused never pass
abbrev pub IsGoodStep : Seen → Step → Type 0
IsGoodStep before (RefuseWords why) = ⊥
IsGoodStep before (TakeRules caseless texts) = rules_fault caseless texts ≡ None
IsGoodStep before (TakeQuery caseless n query) = (text : List ℕ) × TellsText before query text ×
    (first_fault caseless text ≡ None)
IsGoodStep before (TakeFormat tool text) = text_fault tool text ≡ None
IsGoodStep before (OpenLog name) = Unit {0}
IsGoodStep before (ReadFeed reclen seg feed) = (bytes : List ℕ) × (listing : Listing) ×
    (before.held feed.name ≡ Some bytes) × IsFeed reclen seg bytes listing
IsGoodStep before (MakeSink append name) = Unit {0}
IsGoodStep before (AppendLog name) = MayAppend name before

-- each of the steps has what it needs
abbrev pub AreGoodSteps : Seen → List Step → Type 0
AreGoodSteps before steps = AllByRecursion (IsGoodStep before) steps
