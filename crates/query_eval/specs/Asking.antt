-- What asks the pattern of a test: it is made once, and kept (this project's choice).
use Rattle.std.specs.Prelude.{◌≡◌, Bool, true, false, Option, None, IfSome}
use Rattle.vsl_pattern.specs.declared.pattern.Pattern.{Pattern}
use Rattle.vsl_pattern.specs.declared.pattern.Matching.{Matching}
use Rattle.query_parser.specs.declared.test.Check.{Check}
use Rattle.query_parser.specs.declared.test.Check.TheVariants as checks
use Rattle.vsl_pattern.specs.Patterns.{pattern_text, pattern_caseless, matching_text, matching_caseless}

-- it asks this pattern
pub record IsMatchingOf (pattern : Pattern) (matching : Matching) : Type 0 where
  pub text : matching_text matching ≡ pattern_text pattern
  pub caseless : matching_caseless matching ≡ pattern_caseless pattern

-- what asks a pattern, where it was made, asks that of the check; a check of another kind has none
abbrev pub IsReady : Check → Option Matching → Type 0
IsReady checks.Selected matching = matching ≡ None
IsReady (checks.Number comparison operand whole) matching = matching ≡ None
IsReady (checks.Text equal caseless operand) matching = matching ≡ None
IsReady (checks.Pattern matches pattern) matching = IfSome matching (IsMatchingOf pattern)

-- a check asks a pattern
abbrev pub has_pattern : Check → Bool
has_pattern checks.Selected = false
has_pattern (checks.Number comparison operand whole) = false
has_pattern (checks.Text equal caseless operand) = false
has_pattern (checks.Pattern matches pattern) = true
