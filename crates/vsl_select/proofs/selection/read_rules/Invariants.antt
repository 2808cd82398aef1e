-- the rules so far were read, and the others are left
use Rattle.vsl_select.proofs.RuleLemmas.{AreRead}
use Rattle.vsl_select.proofs.selection.read_rules.Given as goal

abbrev pub invariant-loop-text : goal.invariant-loop-text
invariant-loop-text l = AreRead l.caseless l.read.items l.yielded l.text-iterator.rest.items l.fn.rules.items
