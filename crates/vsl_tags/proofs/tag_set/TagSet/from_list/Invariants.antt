-- the elements that are left have what the list has beyond the set, and the list's first fault
use Rattle.std.proofs.Common.{◌≡◌, ◌≤◌, ◌-◌, ◌||◌, ℕ, length}
use denote.Text.{Utf8}
use denote.Shadow.{shadow}
use Rattle.vsl_tags.specs.Tags.{IsTag}
use Rattle.vsl_tags.specs.TagSet.{elements, first_fault, first_fault_from, has_tag, is_selected}
use Rattle.vsl_tags.proofs.tag_set.TagSet.from_list.Given as goal

abbrev pub invariant-loop-element : goal.invariant-loop-element
invariant-loop-element l =
    shadow (Utf8 l.rest)
    × record {
      within : length l.rest ≤ length l.text;
      fault : first_fault_from (length l.text - length l.rest) (elements l.rest) ≡ first_fault l.text;
      tags : (n : ℕ) → IsTag n → (has_tag l.set n || is_selected l.rest n) ≡ is_selected l.text n;
    }

abbrev pub decreases-loop-element : goal.decreases-loop-element
decreases-loop-element l = length l.rest
