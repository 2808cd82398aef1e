-- Traffic that is made from a number: requests of a cache, each with its session, and where it is a miss with the request to a backend (this project's choice). It is said as
-- the lines of a listing, and its units are those of that listing. What is said of a request stands in the table of `requests.rt`.
use Rattle.std.specs.Prelude.{ℕ, zero, suc, ◌+◌, ◌*◌, ◌%◌, ◌==◌, not, if◌then◌else◌, Bool, true, List, [], ◌∷◌, ◌++◌, codes, decimal}
use Rattle.std.specs.List.{flat_map, range_with_len}
use Rattle.vsl_record.specs.declared.mark.Mark.{Mark}
use Rattle.vsl_record.specs.declared.mark.Mark.TheVariants.{Client, Backend}
use Rattle.vsl_record.specs.Unit.{Log}
use Rattle.traffic_feed.specs.declared.requests.Number.{Number}
use Rattle.traffic_feed.specs.declared.requests.Number.TheVariants.{Nothing, VxidOf, Seconds, Item, SizesFetched, SizesSent}
use Rattle.traffic_feed.specs.declared.requests.TheConstants.{ROWS}
use Rattle.traffic_feed.specs.declared.requests.Whose.{Whose}
use Rattle.traffic_feed.specs.declared.requests.Whose.TheVariants.{Fetch, Request, Miss, Hit, Session}
use Rattle.traffic_feed.specs.Turns.{first_draw, next_draw}
use Rattle.raw_records.specs.Lines.{Line, RecordLine}
use Rattle.traffic_feed.specs.Batches.{listing_units, listing_cuts}

-- the number that is drawn from a seed for the k-th request, from 0. It is of a sequence of its own, so the requests
-- are the same in each order of turns
abbrev pub draw_of : ℕ → ℕ → ℕ
draw_of seed zero = next_draw (first_draw seed)
draw_of seed (suc k) = next_draw (draw_of seed k)

-- whether a draw is a miss; else it is a hit. About a quarter of the draws are
abbrev pub is_miss : ℕ → Bool
is_miss x = x % 4 == 0

-- whether a record is said of a miss, or of a hit
abbrev pub is_said : Whose → Bool → Bool
is_said Fetch miss = miss
is_said Request miss = true
is_said Miss miss = miss
is_said Hit miss = not miss
is_said Session miss = true

-- the VXID of a record of the k-th request
abbrev pub vxid_of : Whose → ℕ → ℕ
vxid_of Fetch k = 3 * k + 3
vxid_of Session k = 3 * k + 1
vxid_of whose k = 3 * k + 2

-- the mark of a record
abbrev pub mark_of : Whose → Mark
mark_of Fetch = Backend
mark_of whose = Client

-- the counts of bytes of an answer: of its body, and of all with so many bytes of headers
abbrev pub sizes_of : ℕ → ℕ → List ℕ
sizes_of headers x = decimal (x % 1000) ++ codes " " ++ decimal (x % 1000 + headers)

-- a number of the k-th request, for which x was drawn: what is asked for is one of 100
abbrev pub number_text : Number → ℕ → ℕ → List ℕ
number_text Nothing k x = []
number_text (VxidOf whose) k x = decimal (vxid_of whose k)
number_text Seconds k x = decimal (1650000000 + k)
number_text Item k x = decimal (x % 100)
number_text SizesFetched k x = sizes_of 180 x
number_text SizesSent k x = sizes_of 200 x

-- the line of a row, where it is said of the k-th request
abbrev pub row_lines : ℕ → ℕ → Whose → ℕ → List ℕ → Number → List ℕ → List Line
row_lines k x whose tag before number behind =
    if is_said whose (is_miss x) then
    RecordLine (record {
      vxid = vxid_of whose k;
      rec = record { tag = tag; mark = mark_of whose; payload = before ++ number_text number k x ++ behind };
    }) ∷ []
    else []

-- the lines of the k-th request, for which x was drawn. They come in the order in which they end: the request to the
-- backend, the request, the session
abbrev pub request_lines : ℕ → ℕ → List Line
request_lines k x = flat_map (λ row. row_lines k x row.0 row.1 row.2.now row.3 row.4.now) ROWS

-- the lines of so many requests
abbrev pub made_lines : ℕ → ℕ → List Line
made_lines count seed = flat_map (λ k. request_lines k (draw_of seed k)) (range_with_len 0 count)

-- the units of so many requests that are made from a seed, where so many bytes are kept of a payload and a segment has
-- so many words. So they are cut and counted by the rules of a feed, and there are no others
abbrev pub made_units : ℕ → ℕ → ℕ → ℕ → Log
made_units count seed reclen seg = listing_units reclen seg (made_lines count seed)

-- how often they are cut
abbrev pub made_cuts : ℕ → ℕ → ℕ → ℕ → ℕ
made_cuts count seed reclen seg = listing_cuts reclen seg (made_lines count seed)
