-- what the last of the rules so far says
use Rattle.std.proofs.Common.{◌≡◌, ◌&&◌, Bool, not, reverse, take}
use Rattle.std.specs.List.{All}
use Rattle.vsl_select.specs.Shown.{first_says, names_tag}
use Rattle.vsl_select.specs.inside.Reading.{IsRead}
use Rattle.vsl_select.proofs.RuleLemmas.{texts_of}
use Rattle.vsl_select.proofs.tag_rows.last_named.Given as goal

abbrev pub invariant-loop-rule : goal.invariant-loop-rule
invariant-loop-rule l = (caseless : Bool) → All (IsRead caseless) l.rules → l.said ≡ first_says (λ r. not r.regex && names_tag r l.tag) (reverse (texts_of (take l.rule-index l.rules)))
