-- How patterns are read.
use Rattle.std.specs.Prelude.{Bool, false}
use Rattle.regex_syntax.specs.declared.Config.{Config}
use Rattle.regex_syntax.specs.Verdict.{default_config, default_flags}

-- how patterns are read: over bytes, with `^` and `$` at the ends of a text alone, and with `-C` without regard to case
-- (varnishlog(1), -C; the rest is this project's choice)
abbrev pub options : Bool → Config
options caseless = record default_config { flags = record default_flags { case_insensitive = caseless }; utf8 = false }
