-- What was made to ask the pattern of a test.
use Rattle.std.specs.Prelude.{◌≡◌, ℕ, Bool, List, Option, None, Some}
use Rattle.std.specs.Option.{ForSome}
use Rattle.vsl_pattern.specs.declared.pattern.Matching.{Matching}
use Rattle.query_parser.specs.declared.test.Check.TheVariants as checks
use Rattle.query_parser.specs.declared.test.Test.{Test}
use Rattle.vsl_pattern.specs.Patterns.{pattern_text, pattern_caseless, matching_text, matching_caseless}

-- the pattern that a test asks, and whether without regard to case
abbrev pub test_pattern : Test → Option (Bool × List ℕ)
test_pattern test = elim test.check [
  | checks.Selected ↦ None
  | checks.Number comparison operand whole ↦ None
  | checks.Text equal caseless operand ↦ None
  | checks.Pattern matches pattern ↦ Some (pattern_caseless pattern, pattern_text pattern)
]

-- what was made for a test asks its pattern
abbrev pub IsKept : Test → Option Matching → Type 0
IsKept test matching = ForSome matching (λ m. test_pattern test ≡ Some (matching_caseless m, matching_text m))
