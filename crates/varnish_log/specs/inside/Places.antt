-- Where a tag stands in the table of all of Varnish's tags, by its number in a log of a form.
use Rattle.std.specs.Prelude.{ℕ, ◌+◌, nat_le, if◌then◌else◌, List, map}
use Rattle.std.specs.List.{fold, position_or_len}
use Rattle.std.specs.Str.{bytes_eq}
use Rattle.varnish_log.specs.declared.form.BinaryForm.{BinaryForm}
use Rattle.varnish_log.specs.Forms.{layout}
use Rattle.varnish_log.specs.Tags.{varnish_names}

-- the places of the tags that a form lacks
abbrev pub lacked_places : BinaryForm → List ℕ
lacked_places form = map (λ name. position_or_len (bytes_eq name) varnish_names) (layout form).lacks

-- a place, where the tags before it are counted without the one at this place
abbrev pub past_one : ℕ → ℕ → ℕ
past_one place lacked = if nat_le lacked place then place + 1 else place

-- the place of the tag that has this number in a log of this form
abbrev pub place_of : BinaryForm → ℕ → ℕ
place_of form number = fold past_one number (lacked_places form)
