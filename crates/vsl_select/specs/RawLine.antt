-- The text of one record, with its VXID (varnishlog(1), "-g raw"; escapes are this project's choice).
use Rattle.std.specs.Prelude.{ℕ, ◌-◌, ◌==◌, ◌||◌, nat_lt, if◌then◌else◌, Bool, List, [], ◌∷◌, ◌++◌, length, replicate, codes, decimal}
use Rattle.std.specs.List.{flat_map}
use Rattle.log_model.specs.Escaping.{hex_escape}
use Rattle.vsl_tags.specs.Tags.{tag_name}
use Rattle.vsl_record.specs.declared.mark.Mark.{Mark}
use Rattle.vsl_record.specs.declared.mark.Mark.TheVariants.{Client, Backend, Plain}
use Rattle.vsl_record.specs.declared.record_type.Record.{Record}
use Rattle.vsl_record.specs.Unit.{LogUnit}

-- a text at the right of its columns, after spaces
abbrev pub at_right : ℕ → List ℕ → List ℕ
at_right columns text = replicate (columns - length text) 32 ++ text

-- a text at the left of its columns, before spaces
abbrev pub at_left : ℕ → List ℕ → List ℕ
at_left columns text = text ++ replicate (columns - length text) 32

-- whether a byte is below 32, or 127
abbrev pub is_control : ℕ → Bool
is_control b = nat_lt b 32 || (b == 127)

-- a byte below 32 and the byte 127 are printed as `\x` and two digits, every other byte as it is. So a record is one
-- line, and a payload of the four bytes `\x09` and one of a tab print alike: a raw line can't always be read back
abbrev pub escaped_byte : ℕ → List ℕ
escaped_byte b = if is_control b then hex_escape b else b ∷ []

-- a payload as it is printed
abbrev pub escaped : List ℕ → List ℕ
escaped payload = flat_map escaped_byte payload

-- a tag at the left of 14 columns, a space, a text as it is printed, and a line feed
abbrev pub tag_line : ℕ → List ℕ → List ℕ
tag_line tag text = at_left 14 (tag_name tag) ++ codes " " ++ escaped text ++ codes "\n"

-- the letter of a mark
abbrev pub mark_letter : Mark → ℕ
mark_letter Client = 99
mark_letter Backend = 98
mark_letter Plain = 45

-- the raw line: the VXID right in 10 columns, the tag left in 14, the mark and the payload, with one space between each two,
-- and a line feed
abbrev pub raw_line : ℕ → Record → List ℕ
raw_line vxid rec = at_right 10 (decimal vxid) ++ codes " " ++ at_left 14 (tag_name rec.tag) ++ codes " " ++ mark_letter rec.mark ∷ codes " " ++ escaped rec.payload ++ codes "\n"

-- the raw lines of a unit's records, in order
abbrev pub raw_lines : LogUnit → List ℕ
raw_lines u = flat_map (raw_line u.vxid) u.records
