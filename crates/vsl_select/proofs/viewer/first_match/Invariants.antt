-- the rules are the same, and those before the index say nothing
use Rattle.std.proofs.Common.{◌≡◌, ◌&&◌, Bool, None, map, take}
use Rattle.std.specs.List.{All}
use Rattle.vsl_select.specs.Shown.{first_says, is_matched}
use Rattle.vsl_select.specs.inside.Reading.{IsRead}
use Rattle.vsl_select.proofs.RuleLemmas.{texts_of}
use Rattle.vsl_select.proofs.viewer.first_match.Given as goal

abbrev pub invariant-loop-i : goal.invariant-loop-i
invariant-loop-i l = record {
  rules : map (λ a. a.rule.now) l.all ≡ map (λ a. a.rule.now) l.initial.all;
  none : (caseless : Bool) → All (IsRead caseless) (map (λ a. a.rule.now) l.initial.all) → first_says (λ r. r.regex && is_matched caseless l.rec r) (texts_of (take l.i (map (λ a. a.rule.now) l.initial.all))) ≡ None;
}
