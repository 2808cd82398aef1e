-- the rules before the index were copied
use Rattle.std.proofs.Common.{◌≡◌, take}
use Rattle.job_steps.proofs.words.rules_of.Given as goal

abbrev pub invariant-loop-rule : goal.invariant-loop-rule
invariant-loop-rule l = l.rules.items ≡ take l.rule-index l.rule-items
