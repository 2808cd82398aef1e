-- What decides what is shown (varnishlog(1), "-b", "-c", "-E", "-i", "-x", "-I", "-X" and "-C").
use Rattle.std.specs.Prelude.{Bool, List}
use Rattle.vsl_select.specs.declared.rule_text.RuleText.{RuleText}
use Rattle.vsl_select.specs.declared.rule_text.Sides.{Sides}

-- whose transactions are shown, and the rules for records in the order of their words; whether case counts in their patterns
pub record Showing : Type 0 where
  pub sides : Sides
  pub rules : List RuleText
  pub caseless : Bool
