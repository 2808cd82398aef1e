-- What a job reads, shows and writes (this project's choice).
use Rattle.std.specs.Prelude.{◌≡◌, ℕ, ◌&&◌, not, Bool, true, false, is_some, List, [], ◌++◌, ◌∷◌, map, unwrap_or, codes, Option, Some, None, option_map}
use Rattle.txn_rows.specs.declared.group.GroupOptions.{GroupOptions}
use Rattle.vsl_record.specs.Unit.{Log}
use Rattle.vsl_select.specs.Showing.{Showing}
use Rattle.ncsa_format.specs.declared.formatter.Piece.{Piece}
use Rattle.ncsa_format.specs.Format.{default_format}
use Rattle.ncsa_format.specs.Reading.{format_fault, pieces_of}
use Rattle.traffic_feed.specs.declared.listing.Listing.{Listing}
use Rattle.traffic_feed.specs.Made.{made_units, made_cuts}
use Rattle.tool_words.specs.declared.job.Job.{Job}
use Rattle.tool_words.specs.declared.job.Order.{Order}
use Rattle.tool_words.specs.declared.job.Order.TheVariants.{Threads, Turns, FeedFirst}
use Rattle.tool_words.specs.declared.job.Tool.{Tool}
use Rattle.tool_words.specs.declared.job.Tool.TheVariants as tools
use Rattle.tool_words.specs.Job.{is_fed}
use Rattle.job_steps.specs.declared.fault.ToolFault.{ToolFault}
use Rattle.job_steps.specs.declared.fault.ToolFault.TheVariants.{BadFormat}

-- whether a tool prints counters
abbrev pub is_counting : Tool → Bool
is_counting tools.Log = false
is_counting tools.Ncsa = false
is_counting tools.Top = false
is_counting tools.Stat = true

-- how a job groups records
abbrev pub options_of : Job → GroupOptions
options_of job = record { grouping = job.grouping; limit = job.limit; timeout = job.timeout }

-- what a job shows
abbrev pub showing_of : Job → Showing
showing_of job = record { sides = job.sides; rules = job.rules; caseless = job.caseless }

-- the name of a job's log file, where it has one
abbrev pub file_of : Job → List ℕ
file_of job = unwrap_or job.file []

-- the name of what a job writes: that of a file, or `-`
abbrev pub write_of : Job → List ℕ
write_of job = unwrap_or job.write (codes "-")

-- whether a tool can write a log file
abbrev pub writes_units : Tool → Bool
writes_units tools.Log = true
writes_units tools.Ncsa = false
writes_units tools.Top = false
writes_units tools.Stat = false

-- whether a job writes a log file: varnishlog does so with -w, unless -A asks for lines
abbrev pub writes_log : Job → Bool
writes_log job = writes_units job.tool && is_some job.write && not job.text

-- whether it goes on with one that may be there
abbrev pub appends_log : Job → Bool
appends_log job = writes_log job && job.append

-- ---- the format of a job

-- the text of a job's format: that of its word, or the default
abbrev pub format_text : Job → List ℕ
format_text job = unwrap_or job.format default_format

-- what is wrong with a format, where the tool writes lines in one
abbrev pub text_fault : Tool → List ℕ → Option ToolFault
text_fault tools.Log text = None
text_fault tools.Ncsa text = option_map BadFormat (format_fault text)
text_fault tools.Top text = None
text_fault tools.Stat text = None

-- what is wrong with the format of a job
abbrev pub job_format_fault : Job → Option ToolFault
job_format_fault job = text_fault job.tool (format_text job)

-- a format that was read is there where the tool writes lines in one
abbrev pub HasFormat : Job → Option (List Piece) → Type 0
HasFormat job format = job.tool ≡ tools.Ncsa → format ≡ Some (pieces_of (format_text job))

-- ---- the feeds of a job

-- the seed from which an order's turns are drawn; feed after feed draws none, and threads draw none
abbrev pub order_seed : Order → Option ℕ
order_seed Threads = None
order_seed (Turns seed) = Some seed
order_seed FeedFirst = None

-- whether an order puts each feed on a thread of its own; the others state whose turn it is
abbrev pub is_threads : Order → Bool
is_threads Threads = true
is_threads (Turns seed) = false
is_threads FeedFirst = false

-- whether workers put a job's feeds, or its made requests, on threads: where it has some and states no order. A log in
-- memory is for writers that don't wait for its readers, and who wants the same at each run states an order. It is one
-- rule for all tools, whatever their options are
abbrev pub is_on_threads : Job → Bool
is_on_threads job = is_fed job && is_threads job.order

-- the units of listings, list by list
abbrev pub units_of : List Listing → List Log
units_of listings = map (λ l. l.units) listings

-- the listing of so many requests that are made from a seed, where they are asked for
abbrev pub made_listings : ℕ → ℕ → Option (ℕ × ℕ) → List Listing
made_listings reclen seg None = []
made_listings reclen seg (Some made) =
    record { units = made_units made.0 made.1 reclen seg; cuts = made_cuts made.0 made.1 reclen seg } ∷ []

-- what the writers of a job put: the listings of its feeds, and behind them the one that is made. Where a feed has a
-- VXID of theirs, the records are of one transaction, as those of two feeds are
abbrev pub with_made : Job → List Listing → List Listing
with_made job listings = listings ++ made_listings job.reclen job.seg job.made
