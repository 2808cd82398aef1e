-- Which groups a query holds for (vsl-query(7), "Query Expressions"; that a number is cut, and what of the payload is compared, is this
-- project's choice).
use Rattle.std.specs.Prelude.{ℕ, ℤ, ◌==◌, ◌&&◌, ◌||◌, Bool, true, false, not, nat_le, if◌then◌else◌, List, [], ◌∷◌, map, Option, None, Some}
use Rattle.std.specs.Char.{to_ascii_lowercase}
use Rattle.std.specs.List.{list_any}
use Rattle.std.specs.Option.{option_and_then}
use Rattle.std.specs.Ordering.{int_cmp}
use Rattle.std.specs.declared.cmp.Ordering.{Ordering}
use Rattle.std.specs.declared.cmp.Ordering.TheVariants.{Less, Equal, Greater}
use Rattle.std.specs.Str.{bytes_eq}
use Rattle.vsl_tags.specs.TagSet.{has_tag}
use Rattle.vsl_decimal.specs.Decimal.{decimal_of, integral_part}
use Rattle.vsl_decimal.specs.Field.{field_of}
use Rattle.vsl_decimal.specs.Prefix.{trimmed, value_after}
use Rattle.vsl_record.specs.declared.record_type.Record.{Record}
use Rattle.txn_rows.specs.declared.group.Group.{Group}
use Rattle.txn_rows.specs.declared.group.Member.{Member}
use Rattle.query_grammar.specs.Tree as tree
use Rattle.query_grammar.specs.Tree.{is_true, truths_of}
use Rattle.query_parser.specs.declared.operator.Comparison.{Comparison}
use Rattle.query_parser.specs.declared.operator.Comparison.TheVariants as comparisons
use Rattle.query_parser.specs.declared.test.Bound.TheVariants.{Exactly, AtLeast, AtMost}
use Rattle.query_parser.specs.declared.test.Level.{Level}
use Rattle.query_parser.specs.declared.test.Criterion.{Criterion}
use Rattle.query_parser.specs.declared.test.Check.{Check}
use Rattle.query_parser.specs.declared.test.Check.TheVariants.{Selected, Number, Text, Pattern}
use Rattle.query_parser.specs.declared.test.Test.{Test}
use Rattle.query_parser.specs.declared.query.Query.{Query}
use Rattle.vsl_pattern.specs.Patterns.{is_match, pattern_text, pattern_caseless}

-- ---- which records are selected, and what of them is asked

-- a member's level meets that of a criterion, where it has one. So `{1}` is all of a log by transaction, none of its
-- single records, and of a session the session alone (this project's choice)
abbrev pub meets_level : Option Level → ℕ → Bool
meets_level None level = true
meets_level (Some l) level =
    elim l.bound [ Exactly ↦ level == l.number | AtLeast ↦ nat_le l.number level | AtMost ↦ nat_le level l.number ]

-- a payload from behind its prefix on, where a prefix is asked for
abbrev pub behind_prefix : Option (List ℕ) → List ℕ → Option (List ℕ)
behind_prefix None payload = Some payload
behind_prefix (Some prefix) payload = value_after prefix payload

-- a text, or the field of it that is asked for
abbrev pub field_at : Option ℕ → List ℕ → Option (List ℕ)
field_at None text = Some text
field_at (Some n) text = field_of text n

-- what of a payload is asked, where it has the prefix and the field
abbrev pub subject : Criterion → List ℕ → Option (List ℕ)
subject c payload = option_and_then (field_at c.field) (behind_prefix c.prefix payload)

-- ---- what is asked

-- an order of two numbers satisfies a comparison
abbrev pub compares : Comparison → Ordering → Bool
compares comparisons.Equal Equal = true
compares comparisons.NotEqual Less = true
compares comparisons.NotEqual Greater = true
compares comparisons.Less Less = true
compares comparisons.LessOrEqual Less = true
compares comparisons.LessOrEqual Equal = true
compares comparisons.Greater Greater = true
compares comparisons.GreaterOrEqual Greater = true
compares comparisons.GreaterOrEqual Equal = true
compares _ _ = false

-- numbers are compared as they are, or their integral parts
abbrev pub compared : Bool → ℤ → ℤ
compared whole number = if whole then integral_part number else number

-- a number is there and satisfies a comparison
abbrev pub number_satisfies : Comparison → ℤ → Bool → Option ℤ → Bool
number_satisfies comparison operand whole None = false
number_satisfies comparison operand whole (Some number) =
    compares comparison (int_cmp (compared whole number) (compared whole operand))

-- a text as it is compared
abbrev pub folded : Bool → List ℕ → List ℕ
folded caseless text = if caseless then map to_ascii_lowercase text else text

-- a truth, or its contrary
abbrev pub is_so : Bool → Bool → Bool
is_so true truth = truth
is_so false truth = not truth

-- what of a payload is asked satisfies what is asked
abbrev pub satisfies : Check → List ℕ → Bool
satisfies Selected text = true
satisfies (Number comparison operand whole) text = number_satisfies comparison operand.scaled whole
    (decimal_of (trimmed text))
satisfies (Text equal caseless operand) text = is_so equal (bytes_eq (folded caseless text) (folded caseless operand))
satisfies (Pattern matches pattern) text =
    is_so matches (is_match (pattern_caseless pattern) (pattern_text pattern) text)

-- ---- groups

-- what of a payload is asked is there and satisfies what is asked
abbrev pub subject_satisfies : Check → Option (List ℕ) → Bool
subject_satisfies check None = false
subject_satisfies check (Some text) = satisfies check text

-- a record is selected, its member's level left aside, and satisfies what is asked. So `ne`, `!=` and `!~` want a record,
-- too: where `not` is wanted, it is written (this project's choice)
abbrev pub record_marks : Test → Record → Bool
record_marks test rec = has_tag test.criterion.tags rec.tag && subject_satisfies test.check
    (subject test.criterion rec.payload)

-- a record of a member of this level is selected, and satisfies what is asked
abbrev pub record_satisfies : Test → ℕ → Record → Bool
record_satisfies test level rec = meets_level test.criterion.level level && record_marks test rec

-- some record of a member satisfies a test
abbrev pub member_satisfies : Test → Member → Bool
member_satisfies test member = list_any (record_satisfies test member.level) member.records

-- some record of some member of a group satisfies a test; all records count, shown or not. A query chooses groups, and
-- other options what of them is shown
abbrev pub group_satisfies : Group → Test → Bool
group_satisfies group test = list_any (member_satisfies test) group.members

-- a tree of tests holds for a group
abbrev pub tree_holds : tree.Query Test → Group → Bool
tree_holds t group = is_true (group_satisfies group) t

-- the last of the truths that steps leave
abbrev pub last_truth : List Bool → Bool
last_truth [] = false
last_truth (b ∷ all) = b

-- a query holds for a group. The query that always holds takes no memory, and raw lines are then made without groups
-- (this project's choice)
abbrev pub is_held : Query → Group → Bool
is_held query group = query.always || last_truth (truths_of (group_satisfies group) query.steps.items [])
