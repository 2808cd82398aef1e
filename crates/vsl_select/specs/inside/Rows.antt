-- What a selection keeps of its rules, so that a record is asked no more than it must be.
use Rattle.std.specs.Prelude.{◌≡◌, ℕ, ◌&&◌, Bool, false, not, List, map, reverse, slice_index_or, unwrap_or, Option, Some}
use Rattle.std.specs.List.{All, list_any}
use Rattle.std.specs.Option.{ForSome, option_map}
use Rattle.vsl_pattern.specs.Patterns.{pattern_text, pattern_caseless, matching_text, matching_caseless}
use Rattle.vsl_pattern.specs.declared.pattern.Matching.{Matching}
use Rattle.vsl_pattern.specs.declared.pattern.Pattern.{Pattern}
use Rattle.vsl_select.specs.declared.rule.Rule.{Rule}
use Rattle.vsl_select.specs.declared.rule_text.RuleText.{RuleText}
use Rattle.vsl_select.specs.declared.tag_rows.TagRow.{TagRow}
use Rattle.vsl_select.specs.Showing.{Showing}
use Rattle.vsl_select.specs.Shown.{first_says, names_tag, shows_others}
use Rattle.vsl_select.specs.inside.Reading.{IsRead}

-- the row of a tag: whether a rule of -I or -X names it, and whether its records are shown where none decides
pub record IsRowOf (rules : List RuleText) (tag : ℕ) (row : TagRow) : Type 0 where
  pub asked : row.asked ≡ list_any (λ r. r.regex && names_tag r tag) rules
  pub shown : row.shown ≡ unwrap_or (first_says (λ r. not r.regex && names_tag r tag) (reverse rules)) (shows_others rules)

-- the row with a number
abbrev pub row_at : List TagRow → ℕ → TagRow
row_at rows number = slice_index_or rows number (record { asked = false; shown = false })

-- rules are those of what is shown, as they were read
pub record AreRulesOf (showing : Showing) (rules : List Rule) : Type 0 where
  pub texts : map (λ r. r.text) rules ≡ showing.rules
  pub read : ∥ All (IsRead showing.caseless) rules ∥₁

-- it asks this pattern
pub record IsMatchingOf (pattern : Pattern) (matching : Matching) : Type 0 where
  pub text : matching_text matching ≡ pattern_text pattern
  pub caseless : matching_caseless matching ≡ pattern_caseless pattern

-- the text of a rule's pattern, where it has one, and whether it is asked without regard to case
abbrev pub asked_pattern : Option Pattern → Option (Bool × List ℕ)
asked_pattern pattern = option_map (λ p. (pattern_caseless p, pattern_text p)) pattern

-- what was made for a rule asks its pattern
abbrev pub IsKept : Option Pattern → Option Matching → Type 0
IsKept pattern matching = ForSome matching (λ m. asked_pattern pattern ≡ Some (matching_caseless m, matching_text m))
