-- The text of a group (varnishlog(1)). Columns, escapes and the header's titles are this project's choice.
use Rattle.std.specs.Prelude.{ℕ, ◌==◌, nat_le, if◌then◌else◌, Bool, true, false, List, [], ◌∷◌, ◌++◌, replicate, codes, decimal}
use Rattle.std.specs.List.{flat_map, list_all, list_any}
use Rattle.vsl_record.specs.declared.record_type.Record.{Record}
use Rattle.vsl_select.specs.RawLine.{at_left, tag_line, raw_line}
use Rattle.txn_rows.specs.declared.group.Kind.{Kind}
use Rattle.txn_rows.specs.declared.group.Kind.TheVariants as kinds
use Rattle.txn_rows.specs.declared.group.Member.{Member}
use Rattle.txn_rows.specs.declared.group.Group.{Group}

-- the level field: up to level 3 as many characters, left in 3 columns; above, the level between two; then a space; no grouping
-- gives a header or a record line level 0, whose field is blank
abbrev pub level_field : ℕ → ℕ → List ℕ
level_field character level =
    if nat_le level 3 then at_left 3 (replicate level character) ++ codes " " else character ∷ decimal level ++ character ∷ codes " "

-- the title of a transaction of this kind; no grouping gives a record by itself a header, so the last title is never printed
abbrev pub title : Kind → List ℕ
title kinds.Session = codes "<< Session  >>"
title kinds.Request = codes "<< Request  >>"
title kinds.BeReq = codes "<< BeReq    >>"
title kinds.Unknown = codes "<< Unknown  >>"
title kinds.Record = codes "<< Record   >>"

-- the header of a transaction: the level in stars, the title, and the VXID left in 10 columns
abbrev pub header : Member → List ℕ
header m = level_field 42 m.level ++ title m.kind ++ codes " " ++ at_left 10 (decimal m.vxid) ++ codes "\n"

-- the text of a record: the tag left in 14 columns, and the payload
abbrev pub record_text : Record → List ℕ
record_text rec = tag_line rec.tag rec.payload

-- the line of a record in its transaction: the level in dashes, and the record's text; verbose, the level and the raw
-- line. The raw line has the VXID, as the header has, so that a line can be read by itself
abbrev pub record_line : Bool → Member → Record → List ℕ
record_line verbose m rec = level_field 45 m.level ++ (if verbose then raw_line m.vxid rec else record_text rec)

-- whether a list has an element
abbrev pub is_some_of : {A : Type 0} → List A → Bool
is_some_of [] = false
is_some_of (x ∷ xs) = true

-- the text of a transaction: its header and the lines of its records, where it has any. A header over nothing would be
-- no line of the log (this project's choice)
abbrev pub member_text : Bool → Member → List ℕ
member_text verbose m = if is_some_of m.records then header m ++ flat_map (record_line verbose m) m.records else []

-- whether a group is of records by themselves: all its members stand at level 0
abbrev pub is_raw : Group → Bool
is_raw group = list_all (λ m. m.level == 0) group.members

-- the text of a member of records by themselves: their raw lines
abbrev pub member_raw_lines : Member → List ℕ
member_raw_lines m = flat_map (raw_line m.vxid) m.records

-- the text of transactions: their texts, and an empty line where any of them has a record. No log gives a group without
-- records, since an End is one, but where records are hidden
abbrev pub transactions_text : Bool → List Member → List ℕ
transactions_text verbose members = flat_map (member_text verbose) members ++ (if list_any (λ m. is_some_of m.records) members then codes "\n" else [])

-- the text of a group, or of what of it is shown: of records by themselves their raw lines alone, of transactions their text; no grouping gives a member of
-- level 0 beside others, and here it has a header
abbrev pub group_text : Bool → Group → List ℕ
group_text verbose group = if is_raw group then flat_map member_raw_lines group.members
    else transactions_text verbose group.members
