-- The counters that are still to be reported, what a report tells of each, and the value that a report in JSON is the text of.
use Rattle.std.specs.Prelude.{ℕ, ◌-◌, List, ◌++◌, Option, Some, None, codes, slice_index}
use Rattle.std.specs.List.{filter, flat_map, range_with_len}
use Rattle.counter_segments.specs.Sums.{counter_count}
use Rattle.serde_json.specs.Data.{Data, number, unsigned, object, no_members, member}
use Rattle.vsl_stat.specs.Glob.{is_selected}
use Rattle.vsl_stat.specs.Report.{by_name, name_of, selected, stat_line}

-- the numbers of the selected counters from this one on, in order
abbrev pub selected_from : List (List ℕ) → ℕ → List ℕ
selected_from globs which = filter (λ n. is_selected globs (name_of n)) (range_with_len which (counter_count - which))

-- what is told of a counter: its line, or without values its name and a line feed
abbrev pub told_of : Option (List ℕ) → ℕ → List ℕ
told_of (Some values) which = stat_line which (slice_index values which)
told_of None which = name_of which ++ codes "\n"

-- what is told of the selected counters
abbrev pub told_of_all : Option (List ℕ) → List (List ℕ) → List ℕ
told_of_all values globs = flat_map (told_of values) (selected globs)

-- what the selected counters are as JSON
abbrev pub report_data : List ℕ → List (List ℕ) → Data
report_data values globs = object (member (codes "counters") (object (by_name values (selected globs) no_members)) (member (codes "version") (number (unsigned 1)) no_members))
