-- The counters of varnishstat, and what is printed of them (varnishstat(1), "-1", "-j" and "-l"; varnish-counters(7) under `MAIN.`; columns and texts are this project's choice).
use Rattle.std.specs.Prelude.{ℕ, if◌then◌else◌, ◌&&◌, nat_le, List, [], ◌∷◌, ◌++◌, slice_index, slice_index_or, codes, decimal}
use Rattle.std.specs.List.{filter, flat_map, range_with_len}
use Rattle.counter_segments.specs.Sums.{counter_count}
use Rattle.vsl_select.specs.RawLine.{at_left, at_right}
use Rattle.serde_json.specs.Data.{Data, string, number, unsigned, object, Members, no_members, member, put}
use Rattle.serde_json.specs.Written.{compact_text}
use Rattle.vsl_stat.specs.Glob.{is_selected}

-- a counter: its name without `MAIN.`, and what it counts
pub record Counter : Type 0 where
  pub name : List ℕ
  pub description : List ℕ

-- a counter of this name and description
abbrev pub counter : List ℕ → List ℕ → Counter
counter name description = record { name = name; description = description }

-- the counters, in the order of their numbers, from 0
abbrev pub counter_table : List Counter
counter_table =
    counter (codes "sess_conn") (codes "Sessions accepted") ∷
    counter (codes "client_req") (codes "Good client requests received") ∷
    counter (codes "cache_hit") (codes "Cache hits") ∷
    counter (codes "cache_hitpass") (codes "Cache hits for pass") ∷
    counter (codes "cache_hitmiss") (codes "Cache hits for miss") ∷
    counter (codes "cache_miss") (codes "Cache misses") ∷
    counter (codes "backend_conn") (codes "Backend conn. success") ∷
    counter (codes "backend_req") (codes "Backend requests made") ∷
    counter (codes "fetch_failed") (codes "Fetch failed (all causes)") ∷
    counter (codes "s_pipe") (codes "Total pipe sessions seen") ∷
    counter (codes "s_pass") (codes "Total pass-ed requests seen") ∷
    counter (codes "s_synth") (codes "Total synthetic responses made") ∷
    counter (codes "s_req_hdrbytes") (codes "Request header bytes") ∷
    counter (codes "s_req_bodybytes") (codes "Request body bytes") ∷
    counter (codes "s_resp_hdrbytes") (codes "Response header bytes") ∷
    counter (codes "s_resp_bodybytes") (codes "Response body bytes") ∷
    counter (codes "shm_records") (codes "SHM records") ∷
    counter (codes "shm_writes") (codes "SHM writes") ∷
    counter (codes "shm_flushes") (codes "SHM flushes due to overflow") ∷
    counter (codes "shm_cont") (codes "SHM MTX contention") ∷
    counter (codes "shm_cycles") (codes "SHM cycles through buffer") ∷
    []

-- the counter of a number; none behind the last has a name
abbrev pub counter_of : ℕ → Counter
counter_of which = slice_index_or counter_table which (counter [] [])

-- the name of a counter, as it is printed and selected
abbrev pub name_of : ℕ → List ℕ
name_of which = codes "MAIN." ++ (counter_of which).name

-- the numbers of the counters that are selected, in order
abbrev pub selected : List (List ℕ) → List ℕ
selected globs = filter (λ which. is_selected globs (name_of which)) (range_with_len 0 counter_count)

-- ---- as text

-- the line of a counter: its name left in 30 columns, its value right in 12, and what it counts, one space between each
-- two, and a line feed. A column per second would need a clock, and be another at each run
abbrev pub stat_line : ℕ → ℕ → List ℕ
stat_line which value = at_left 30 (name_of which) ++ codes " " ++ at_right 12 (decimal value) ++ codes " " ++ (counter_of which).description ++ codes "\n"

-- the lines of the selected counters
abbrev pub stat_text : List ℕ → List (List ℕ) → List ℕ
stat_text values globs = flat_map (λ which. stat_line which (slice_index values which)) (selected globs)

-- the names of the selected counters, a line each
abbrev pub stat_list : List (List ℕ) → List ℕ
stat_list globs = flat_map (λ which. name_of which ++ codes "\n") (selected globs)

-- ---- as JSON

-- how a counter is to be shown: `B` for the four that count bytes, `i` for the others
abbrev pub format_of : ℕ → List ℕ
format_of which = if nat_le 12 which && nat_le which 15 then codes "B" else codes "i"

-- a counter and its value
abbrev pub counter_data : ℕ → ℕ → Data
counter_data which value =
    object (member (codes "description") (string (counter_of which).description)
    (member (codes "flag") (string (codes "c"))
    (member (codes "format") (string (format_of which))
    (member (codes "value") (number (unsigned value)) no_members))))

-- counters by their names, each name once, in the order of bytes. JSON has no order of keys; with this one text alone
-- is right
abbrev pub by_name : List ℕ → List ℕ → Members → Members
by_name values [] members = members
by_name values (which ∷ numbers) members =
    by_name values numbers (put (name_of which) (counter_data which (slice_index values which)) members)

-- the JSON of the selected counters, without a space, and a line feed. A timestamp would be another at each run. How
-- the object is printed is the definition of the crate `serde_json`
abbrev pub stat_json : List ℕ → List (List ℕ) → List ℕ
stat_json values globs =
    compact_text (object (member (codes "counters") (object (by_name values (selected globs) no_members)) (member (codes "version") (number (unsigned 1)) no_members)))
    ++ codes "\n"
