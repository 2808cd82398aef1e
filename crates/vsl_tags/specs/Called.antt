-- The tag of a name, in any case (vsl-query(7), "taglist"; varnishncsa(1), "FORMAT").
use Rattle.std.specs.Prelude.{◌≡◌, ℕ, nat_le, if◌then◌else◌, List, Option, Some, None}
use Rattle.std.specs.Str.{str_to_ascii_lowercase}
use Rattle.vsl_tags.specs.Tags.{IsTag, last_tag, number_of_lower, tag_name}

-- a name is this tag's, in any case
abbrev pub IsTagName : ℕ → List ℕ → Type 0
IsTagName tag name = IsTag tag × (str_to_ascii_lowercase name ≡ str_to_ascii_lowercase (tag_name tag))

-- the tag of a name, in any case
abbrev pub tag_called : List ℕ → Option ℕ
tag_called name = let n = number_of_lower (str_to_ascii_lowercase name) in if nat_le n last_tag then Some n else None
