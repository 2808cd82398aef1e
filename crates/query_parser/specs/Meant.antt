-- What a test means as it is written (vsl-query(7), "Record selection criteria", "Operator" and "Operand").
use Rattle.std.specs.Prelude.{◌≡◌, ◌↔◌, ℕ, ◌==◌, Bool, true, not, List, [], Option, None, Some, option_map}
use Rattle.std.specs.List.{list_any}
use Rattle.std.specs.Str.Parse.{digits_value}
use Rattle.vsl_tags.specs.Tags.{IsTag}
use Rattle.vsl_tags.specs.TagSet.{HasTag, IsSelected}
use Rattle.vsl_decimal.specs.Decimal.{Spells, period}
use Rattle.query_grammar.specs.Criterion as written
use Rattle.query_grammar.specs.Criterion.{Parts, LevelSign, OrMore, OrLess, is_criterion, criterion_text, names_of, joined_names, meant_by, operand_meaning}
use Rattle.query_grammar.specs.Step.{TestParts}
use Rattle.query_parser.specs.declared.operator.Operator.TheVariants as operators
use Rattle.query_parser.specs.declared.test.Bound.{Bound}
use Rattle.query_parser.specs.declared.test.Bound.TheVariants.{Exactly, AtLeast, AtMost}
use Rattle.query_parser.specs.declared.test.Level.{Level}
use Rattle.query_parser.specs.declared.test.Criterion.{Criterion}
use Rattle.query_parser.specs.declared.test.Check.{Check}
use Rattle.query_parser.specs.declared.test.Check.TheVariants.{Selected, Number, Text, Pattern}
use Rattle.query_parser.specs.declared.test.Test.{Test}
use Rattle.query_parser.specs.Operators.{operator_text}
use Rattle.vsl_pattern.specs.Patterns.{pattern_text, pattern_caseless}

-- the bound that the sign of a level means
abbrev pub bound_of : Option LevelSign → Bound
bound_of None = Exactly
bound_of (Some OrMore) = AtLeast
bound_of (Some OrLess) = AtMost

-- the level that is meant
abbrev pub level_meant : Option written.Level → Option Level
level_meant level = option_map (λ l. record { number = digits_value 10 l.digits; bound = bound_of l.operator }) level

-- the field that is meant
abbrev pub field_meant : Option (List ℕ) → Option ℕ
field_meant field = option_map (λ digits. digits_value 10 digits) field

-- a criterion has the level, the tags, the prefix and the field of these parts
pub record AreParts (p : Parts) (c : Criterion) : Type 0 where
  pub level : c.level ≡ level_meant p.level
  pub tags : (tag : ℕ) → IsTag tag → HasTag c.tags tag ↔ IsSelected (joined_names (names_of p)) tag
  pub prefix : c.prefix ≡ option_map meant_by p.prefix
  pub field : c.field ≡ field_meant p.field

-- a criterion is what these bytes mean
abbrev pub IsCriterion : List ℕ → Criterion → Type 0
IsCriterion text c = (p : Parts) × (is_criterion p ≡ true) × (criterion_text p ≡ text) × AreParts p c

-- an operand that is an integer has no period. The operand tells what is compared, and not the payload (this project's
-- choice)
abbrev pub is_integer : List ℕ → Bool
is_integer text = not (list_any (λ b. b == period) text)

-- what is asked of a record is what this operator and this operand mean; without an operator nothing more is
abbrev pub IsCheck : Bool → List ℕ → List ℕ → Check → Type 0
IsCheck caseless operator operand Selected = operator ≡ []
IsCheck caseless operator operand (Number comparison number whole) =
    (operator ≡ operator_text (operators.Number comparison)) × Spells (operand_meaning operand) number.scaled × (whole ≡ is_integer (operand_meaning operand))
IsCheck caseless operator operand (Text equal folded text) =
    (operator ≡ operator_text (operators.Text equal)) × (folded ≡ caseless) × (text ≡ operand_meaning operand)
IsCheck caseless operator operand (Pattern matches pattern) =
    (operator ≡ operator_text (operators.Pattern matches)) × (pattern_text pattern ≡ operand_meaning operand) × (pattern_caseless pattern ≡ caseless)

-- a test is what its parts mean
pub record IsMeant (caseless : Bool) (parts : TestParts) (test : Test) : Type 0 where
  pub criterion : IsCriterion parts.criterion test.criterion
  pub check : IsCheck caseless parts.operator parts.operand test.check
