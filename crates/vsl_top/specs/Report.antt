-- The report of varnishtop: how often each key stands in a log (varnishtop(1), "-1" and "-f"; columns and order are this project's choice).
use Rattle.std.specs.Prelude.{ℕ, ◌==◌, ◌&&◌, if◌then◌else◌, Bool, List, [], ◌∷◌, ◌++◌, length, map, codes, decimal, unwrap_or}
use Rattle.std.specs.List.{filter, flat_map, list_any}
use Rattle.std.specs.Str.{bytes_eq}
use Rattle.std.specs.Ordering.{nat_cmp, ordering_then, is_lt}
use Rattle.std.specs.Cmp.Lexicographic.{slice_cmp}
use Rattle.std.specs.declared.cmp.Ordering.{Ordering}
use Rattle.vsl_tags.specs.Tags.{tag_name}
use Rattle.vsl_decimal.specs.Field.{field_of}
use Rattle.vsl_record.specs.declared.record_type.Record.{Record}
use Rattle.txn_rows.specs.declared.group.Group.{Group}
use Rattle.vsl_select.specs.RawLine.{at_right, tag_line}
use Rattle.vsl_select.specs.Showing.{Showing}
use Rattle.vsl_select.specs.Shown.{shown}

-- what is counted: a tag with a text
pub record Key : Type 0 where
  pub tag : ℕ
  pub text : List ℕ

-- the key of a record: its tag, and its payload, or the first field of it, nothing where it has none. So each shown
-- record is counted once
abbrev pub key_of : Bool → Record → Key
key_of first_field rec = record {
  tag = rec.tag;
  text = if first_field then unwrap_or (field_of rec.payload 1) []
      else rec.payload;
}

-- the keys of the shown records of groups, in order. They are those that varnishlog prints for the same options, also
-- of a force-completion: VSL tells how often a limit, a timeout or the log's end cut a transaction
abbrev pub keys_of : Showing → Bool → List Group → List Key
keys_of showing first_field groups =
    map (key_of first_field) (flat_map (λ g. flat_map (λ m. m.records) (shown showing g).members) groups)

-- whether two keys are equal. Case counts, also with -C, which is of patterns and queries
abbrev pub is_same : Key → Key → Bool
is_same a b = (a.tag == b.tag) && bytes_eq a.text b.text

-- how many of some keys are this one
abbrev pub count_of : Key → List Key → ℕ
count_of key keys = length (filter (is_same key) keys)

-- some keys, each once
abbrev pub distinct : List Key → List Key
distinct [] = []
distinct (key ∷ keys) = if list_any (is_same key) keys then distinct keys else key ∷ distinct keys

-- a key with its count
pub record Line : Type 0 where
  pub count : ℕ
  pub key : Key

-- the order of lines: the higher count first, then the tag's name by bytes, then the text by bytes. So a report is the
-- same whatever the order of the log, and however its lines are printed
abbrev pub line_order : Line → Line → Ordering
line_order a b = ordering_then (nat_cmp b.count a.count)
    (ordering_then (slice_cmp nat_cmp (tag_name a.key.tag) (tag_name b.key.tag))
    (slice_cmp nat_cmp a.key.text b.key.text))

-- a line at its place among lines in order
abbrev pub put_in : Line → List Line → List Line
put_in line [] = line ∷ []
put_in line (l ∷ lines) = if is_lt (line_order l line) then l ∷ put_in line lines else line ∷ l ∷ lines

-- lines in order
abbrev pub in_order : List Line → List Line
in_order [] = []
in_order (line ∷ lines) = put_in line (in_order lines)

-- the lines of the keys: each key once with its count, in order
abbrev pub lines_of : List Key → List Line
lines_of keys = in_order (map (λ key. record { count = count_of key keys; key = key }) (distinct keys))

-- the text of a line: the count right in 10 columns, the tag left in 14, the text with its escapes, one space between
-- each two, and a line feed. Nothing is divided by a time, since a log that is read once has no clock. Two lines may
-- print alike, as of the byte 1 and of the four bytes `\x01`
abbrev pub line_text : Line → List ℕ
line_text line = at_right 10 (decimal line.count) ++ codes " " ++ tag_line line.key.tag line.key.text

-- the report of the shown records of groups
abbrev pub top_text : Showing → Bool → List Group → List ℕ
top_text showing first_field groups = flat_map line_text (lines_of (keys_of showing first_field groups))

-- what is written of groups: the report, where they have ended. Counts of a part look like those of the whole, so a
-- fault leaves no report
abbrev pub top_output : Showing → Bool → List Group → Bool → List ℕ
top_output showing first_field groups ended = if ended then top_text showing first_field groups else []
