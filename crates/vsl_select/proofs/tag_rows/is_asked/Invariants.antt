-- no rule so far is one of -I and -X that names the tag
use Rattle.std.proofs.Common.{◌≡◌, ◌&&◌, Bool, false, take}
use Rattle.std.specs.List.{All, list_any}
use Rattle.vsl_select.specs.Shown.{names_tag}
use Rattle.vsl_select.specs.inside.Reading.{IsRead}
use Rattle.vsl_select.proofs.RuleLemmas.{texts_of}
use Rattle.vsl_select.proofs.tag_rows.is_asked.Given as goal

abbrev pub invariant-loop-rule : goal.invariant-loop-rule
invariant-loop-rule l = (caseless : Bool) → All (IsRead caseless) l.rules → list_any (λ r. r.regex && names_tag r l.tag) (texts_of (take l.rule-index l.rules)) ≡ false
