-- Patterns: which texts are good ones, and what they match (varnishlog(1), -C; what a pattern means is the definition of the crate `regex`).
use Rattle.std.specs.Prelude.{ℕ, Bool, false, ◌&&◌, nat_le, is_some, List, Some, None, chars}
use Rattle.std.specs.Str.{is_utf8}
use Rattle.regex_hir.specs.Find.{find}
use Rattle.regex_syntax.specs.Grammar.{read}
use Rattle.regex.specs.Bytes.{regex_source}
use Rattle.vsl_pattern.specs.Options.{options}
use Rattle.vsl_pattern.specs.declared.pattern.Pattern.{Pattern}
use Rattle.vsl_pattern.specs.declared.pattern.Matching.{Matching}

-- a text is a good pattern: it is UTF-8, the grammar reads it, and it isn't nested deeper than 250. That depth is the
-- crate's own limit
abbrev pub is_good_pattern : Bool → List ℕ → Bool
is_good_pattern caseless text = is_utf8 text && elim (read (options caseless) (chars text)) [ None ↦ false | Some x ↦ nat_le x.0.depth (options caseless).nest_limit ]

-- a pattern matches somewhere in these bytes. Unlike PCRE2, which varnishlog asks, the crate reads no lookaround and no
-- references to groups
abbrev pub is_match : Bool → List ℕ → List ℕ → Bool
is_match caseless text bytes = elim (read (options caseless) (chars text)) [ None ↦ false | Some x ↦ is_some (find x.0.value bytes 0) ]

-- the text of a pattern
abbrev pub pattern_text : Pattern → List ℕ
pattern_text p = regex_source p.regex

-- whether a pattern is asked without regard to case
abbrev pub pattern_caseless : Pattern → Bool
pattern_caseless p = p.caseless

-- the text of the pattern that is asked
abbrev pub matching_text : Matching → List ℕ
matching_text m = pattern_text m.pattern.now

-- whether the pattern is asked without regard to case
abbrev pub matching_caseless : Matching → Bool
matching_caseless m = m.pattern.now.caseless
