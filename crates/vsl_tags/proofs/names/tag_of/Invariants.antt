-- no tag so far has the name
use Rattle.std.proofs.Common.{◌≢◌, ◌<◌, ℕ}
use Rattle.std.specs.Str.{str_to_ascii_lowercase}
use Rattle.vsl_tags.specs.Tags.{IsTag, tag_name}
use Rattle.vsl_tags.proofs.names.tag_of.Given as goal

abbrev pub invariant-loop-number : goal.invariant-loop-number
invariant-loop-number l = (n : ℕ) → IsTag n → n < l.number → str_to_ascii_lowercase (tag_name n) ≢ str_to_ascii_lowercase l.name
