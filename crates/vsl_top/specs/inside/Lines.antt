-- Lines whose texts are lent.
use Rattle.std.specs.Prelude.{◌≡◌, ℕ, List, map, take}
use Rattle.std.specs.List.{All}
use Rattle.vsl_tags.specs.Tags.{IsTag, tag_rank}
use Rattle.vsl_top.specs.Report.{Key, Line}
use Rattle.vsl_top.specs.declared.line.Line.{Line as LineParts}

-- the line of a key that is lent, with its count
abbrev pub line_in : LineParts → Line
line_in parts = record { count = parts.count.0; key = record { tag = parts.tag; text = parts.text.now } }

-- the rank is that of the tag
pub record IsRanked (parts : LineParts) : Type 0 where
  pub tag : IsTag parts.tag
  pub rank : parts.rank ≡ tag_rank parts.tag

-- the line of a key that was counted
abbrev pub entry_line : Key × ℕ → Line
entry_line e = record { count = e.1; key = e.0 }

-- the lines of the first n entries, in their order
pub record AreLinesOf (entries : List (Key × ℕ)) (n : ℕ) (lines : List LineParts) : Type 0 where
  pub each : map line_in lines ≡ take n (map entry_line entries)
  pub ranked : All IsRanked lines
