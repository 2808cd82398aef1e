-- the rows of the tags so far are there
use Rattle.std.proofs.Common.{◌≡◌, ◌+◌, ◌<◌, ℕ, Bool, length}
use Rattle.std.specs.List.{All}
use Rattle.vsl_tags.specs.Tags.{IsTag, last_tag}
use Rattle.vsl_select.specs.inside.Reading.{IsRead}
use Rattle.vsl_select.specs.inside.Rows.{IsRowOf, row_at}
use Rattle.vsl_select.proofs.RuleLemmas.{texts_of}
use Rattle.vsl_select.proofs.tag_rows.rows_of.Given as goal

abbrev pub invariant-loop-number : goal.invariant-loop-number
invariant-loop-number l = record {
  places : length l.rows ≡ last_tag + 1;
  rows : (caseless : Bool) → All (IsRead caseless) l.rules → (tag : ℕ) → IsTag tag → tag < l.number → IsRowOf (texts_of l.rules) tag (row_at l.rows tag);
}
