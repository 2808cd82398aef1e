use Rattle.std.proofs.Common.{◌≡◌, length}
use Rattle.query_grammar.specs.Moves.{tightened}
use Rattle.query_parser.proofs.stack.tighten.Given as goal

abbrev pub invariant-loop-mark : goal.invariant-loop-mark
invariant-loop-mark l = tightened l.waiting l.steps.items ≡ tightened l.fn.waiting l.fn.steps.items

abbrev pub decreases-loop-mark : goal.decreases-loop-mark
decreases-loop-mark l = length l.waiting
