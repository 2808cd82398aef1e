-- What a rule that was read keeps of its text.
use Rattle.std.specs.Prelude.{◌≡◌, ℕ, ◌↔◌, Bool, List, Option, Some, None}
use Rattle.vsl_tags.specs.Tags.{IsTag}
use Rattle.vsl_tags.specs.TagSet.{HasTag, IsSelected}
use Rattle.vsl_tags.specs.declared.tag_set.TagSet.{TagSet}
use Rattle.vsl_pattern.specs.Patterns.{pattern_text, pattern_caseless}
use Rattle.vsl_pattern.specs.declared.pattern.Pattern.{Pattern}
use Rattle.vsl_select.specs.Shown.{parts_of}
use Rattle.vsl_select.specs.declared.rule.Rule.{Rule}

-- a set has the tags that a taglist names; there is one where there is a taglist
abbrev pub AreTagsOf : Option (List ℕ) → Option TagSet → Type 0
AreTagsOf None None = Unit {0}
AreTagsOf (Some text) (Some set) = (tag : ℕ) → IsTag tag → HasTag set tag ↔ IsSelected text tag
AreTagsOf None (Some set) = ⊥
AreTagsOf (Some text) None = ⊥

-- a pattern has this text, and is read so; there is one where there is a text
abbrev pub IsPatternOf : Bool → Option (List ℕ) → Option Pattern → Type 0
IsPatternOf caseless None None = Unit {0}
IsPatternOf caseless (Some text) (Some pattern) = (pattern_text pattern ≡ text) × (pattern_caseless pattern ≡ caseless)
IsPatternOf caseless None (Some pattern) = ⊥
IsPatternOf caseless (Some text) None = ⊥

-- a rule is what its text says
pub record IsRead (caseless : Bool) (rule : Rule) : Type 0 where
  pub tags : AreTagsOf (parts_of rule.text).tags rule.tags
  pub pattern : IsPatternOf caseless (parts_of rule.text).pattern rule.pattern
