-- the tags so far that match were added
use Rattle.std.proofs.Common.{◌≡◌, ◌-◌, ◌||◌, ◌&&◌, ltb, ℕ, take}
use Rattle.std.specs.List.{list_any}
use Rattle.vsl_tags.specs.Tags.{IsTag, tag_name, tag_names}
use Rattle.vsl_tags.specs.TagSet.{has_tag}
use Rattle.vsl_tags.specs.Glob.{matches}
use Rattle.vsl_tags.proofs.tag_set.TagSet.add_matching.Given as goal

abbrev pub invariant-loop-number : goal.invariant-loop-number
invariant-loop-number l = record {
  any : l.found ≡ list_any (matches l.element) (take (l.number - 1) tag_names);
  tags : (n : ℕ) → IsTag n → has_tag l.self n ≡ (has_tag l.initial.self n || (ltb n l.number && matches l.element (tag_name n)));
}
