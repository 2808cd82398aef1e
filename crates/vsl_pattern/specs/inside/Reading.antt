-- What a pattern keeps of its text.
use Rattle.std.specs.Prelude.{◌≡◌, Bool}
use Rattle.regex.specs.Bytes.{regex_config, IsReadFromSource}
use Rattle.regex.specs.declared.bytes.regex.Regex.{Regex}
use Rattle.vsl_pattern.specs.Options.{options}

-- a regex is what the grammar reads in its text
pub record IsReadUnder (caseless : Bool) (regex : Regex) : Type 0 where
  pub options : regex_config regex ≡ options caseless
  pub read : IsReadFromSource regex
