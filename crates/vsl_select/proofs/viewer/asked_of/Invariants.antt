-- the rules so far were taken up
use Rattle.std.proofs.Common.{◌≡◌, map, take}
use Rattle.vsl_select.proofs.viewer.asked_of.Given as goal

abbrev pub invariant-loop-rule : goal.invariant-loop-rule
invariant-loop-rule l = map (λ a. a.rule.now) l.all.items ≡ take l.rule-index l.rules
