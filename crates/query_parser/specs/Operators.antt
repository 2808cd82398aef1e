-- How operators are written (vsl-query(7), "Operator").
use Rattle.std.specs.Prelude.{ℕ, true, false, List, codes}
use Rattle.query_parser.specs.declared.operator.Comparison.{Comparison}
use Rattle.query_parser.specs.declared.operator.Comparison.TheVariants.{Equal, NotEqual, Less, LessOrEqual, Greater, GreaterOrEqual}
use Rattle.query_parser.specs.declared.operator.Operator.{Operator}
use Rattle.query_parser.specs.declared.operator.Operator.TheVariants.{Number, Text, Pattern}

-- how a comparison of numbers is written
abbrev pub comparison_text : Comparison → List ℕ
comparison_text Equal = codes "=="
comparison_text NotEqual = codes "!="
comparison_text Less = codes "<"
comparison_text LessOrEqual = codes "<="
comparison_text Greater = codes ">"
comparison_text GreaterOrEqual = codes ">="

-- how an operator is written
abbrev pub operator_text : Operator → List ℕ
operator_text (Number comparison) = comparison_text comparison
operator_text (Text true) = codes "eq"
operator_text (Text false) = codes "ne"
operator_text (Pattern true) = codes "~"
operator_text (Pattern false) = codes "!~"
